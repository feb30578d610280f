-- A bill is stacked if its type is enabled and the escrow allows it, and can't be otherwise.
use Rattle.mdb_cash.proofs.Words.{refl, sym, ◌∙◌, facts_in}
use Rattle.mdb_cash.proofs.Escrows.{stacks, stacks_not}
use Rattle.mdb_cash.proofs.bill.conduct.stack_bill.Goals as goal
use Rattle.mdb_cash.proofs.bill.conduct.stack_bill.Goals.{else-is_enabled-via-then-is_enabled+else-may_stack, else-is_enabled-via-else-is_enabled}

pub returns-then-may_stack : goal.returns-then-may_stack
returns-then-may_stack c =
    stacks (facts_in c.args.facts.now) c.in_ok-bill.bill c.in_ok-bill.ensures.some
    (sym c.is_enabled.ensures ∙ c.if-is_enabled.true) (c.if-may_stack.ensures.0 refl)

pub returns-else-is_enabled : goal.returns-else-is_enabled
returns-else-is_enabled c =
    stacks_not (facts_in c.args.facts.now) c.in_ok-bill.bill c.in_ok-bill.ensures.some
    (λ enabled may.
    elim c.else-is_enabled.branch [
      | else-is_enabled-via-then-is_enabled+else-may_stack w ↦
          absurd (cc (w.if-may_stack.ensures.1 may))
      | else-is_enabled-via-else-is_enabled w ↦
          absurd (cc (c.is_enabled.ensures, enabled, w.if-is_enabled.false))
    ])
