-- Two types are the same where their numbers are.
use Rattle.mdb_cash.proofs.Words.{ap, sym, ◌∙◌, eq-eqb, eqb-true, BillType, same_type}
use Rattle.mdb_cash.proofs.bill.state.BillType.is.Goals as goal

pub returns : goal.returns
returns c =
    let one = c.args.self in
    let other = c.args.other in (
      λ same. same_type one other (eqb-true one.number other.number (sym c.eq.ensures ∙ same)),
      λ is. c.eq.ensures ∙ eq-eqb one.number other.number (ap (λ (b : BillType). b.number) is),
    )
