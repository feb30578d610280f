-- Coins deposited and coins paid out by hand have small values, one for each slot.
use Rattle.mdb_cash.proofs.Words.{arith, subst, sym, ◌<◌, ◌^◌, [], ◌∷◌, below_at}
use Rattle.mdb_cash.proofs.changer.conduct.ChangerConduct.gain.Goals as goal

pub returns-clause-small : goal.returns-clause-small
returns-clause-small c =
    let first = c.deposited-coins_in.ensures.small in
    let second = c.paid_by_hand-paid_out.ensures.small in
    subst (λ n. n < 2 ^ 28) (sym c.amount_at.ensures)
    (below_at (2 ^ 28) (c.deposited-coins_in.result ∷ c.paid_by_hand-paid_out.result ∷ [])
    c.args.slot (omega arith) (omega (arith, first), (omega (arith, second), tt)))
