-- A stacked bill has a small value, and no slot after it gains anything.
use Rattle.mdb_cash.proofs.Words.{arith, subst, sym, ◌<◌, ◌^◌, [], ◌∷◌, below_at}
use Rattle.mdb_cash.proofs.bill.conduct.BillConduct.gain.Goals as goal

pub returns-clause-small : goal.returns-clause-small
returns-clause-small c =
    let bill = c.stacked.ensures.small in
    subst (λ n. n < 2 ^ 28) (sym c.amount_at.ensures)
    (below_at (2 ^ 28) (c.stacked.result ∷ []) c.args.slot (omega arith)
    (omega (arith, bill), tt))
