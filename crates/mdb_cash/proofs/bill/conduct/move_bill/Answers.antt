-- A bill goes into an empty escrow if its type is enabled, and is returned only from there.
use Rattle.mdb_cash.proofs.Words.{refl, sym, ◌∙◌, inl, inr, facts_in}
use Rattle.mdb_cash.proofs.Escrows.{puts, returns, returns_not}
use Rattle.mdb_cash.proofs.bill.conduct.move_bill.Goals as goal

pub returns-in-Stacked : goal.returns-in-Stacked
returns-in-Stacked c =
    elim c.in-Stacked.is [
      | inl is ↦ rw is (c.stack_bill.ensures)
      | inr is ↦ rw is (c.stack_bill.ensures)
    ]

pub returns-then-is_empty : goal.returns-then-is_empty
returns-then-is_empty c =
    puts (facts_in c.args.facts.now) c.in_ok-bill-in-Escrow.bill c.in-Escrow.is
    c.in_ok-bill-in-Escrow.ensures.some
    (sym c.is_enabled.ensures ∙ c.if-is_enabled.true) (c.if-is_empty.ensures.0 refl)

pub returns-then-may_return : goal.returns-then-may_return
returns-then-may_return c =
    returns (facts_in c.args.facts.now) c.in_ok-bill-in-Returned.bill c.in-Returned.is
    c.in_ok-bill-in-Returned.ensures.some (c.if-may_return.ensures.0 refl)

pub returns-else-may_return : goal.returns-else-may_return
returns-else-may_return c =
    returns_not (facts_in c.args.facts.now) c.in_ok-bill-in-Returned.bill c.in-Returned.is
    c.in_ok-bill-in-Returned.ensures.some (λ may. absurd (cc (c.if-may_return.ensures.1 may)))
