-- From this escrow the rest leaves what all messages leave from the first one.
use Rattle.mdb_cash.proofs.Words.{drop, facts_in}
use Rattle.mdb_cash.proofs.Escrows.{Leaves}
use Rattle.mdb_cash.proofs.bill.conduct.move_bills.Given as goal

abbrev pub invariant-loop-message : goal.invariant-loop-message
invariant-loop-message l =
    Leaves (facts_in l.facts) l.messages (drop l.message-index l.messages) l.initial.escrow l.escrow
