-- If all amounts are small, that of each slot is.
use Rattle.mdb_machine.proofs.Words.{◌<◌, ◌^◌, subst, sym}
use Rattle.mdb_machine.proofs.Slots.{small_at}
use Rattle.mdb_machine.proofs.gains.by_slot.Goals as goal

pub returns-clause-small : goal.returns-clause-small
returns-clause-small c small =
    let amounts = c.args.amounts.now in (
      subst (λ n. n < 2 ^ 32) (sym c.amount_at.ensures) (small_at amounts 0 small),
      (
        subst (λ n. n < 2 ^ 32) (sym c.amount_at-2.ensures) (small_at amounts 1 small),
        tt,
      ),
    )
