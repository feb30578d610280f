-- An ask that changes nothing, or an ACK by which nothing is taken, leaves the reader as it is.
use Rattle.mdb_cashless.proofs.Words.{◌∙◌, sym}
use Rattle.mdb_cashless.proofs.ApprovalsLeft.{ack_stays, ask_stays}
use Rattle.mdb_cashless.proofs.ReaderMoves.{denied}
use Rattle.mdb_cashless.proofs.approvals.matters.concerns.Goals as goal

pub returns-in-Some-clause-still : goal.returns-in-Some-clause-still
returns-in-Some-clause-still c = denied c.changes.result (λ no facts choice before after gains.
    rw (c.in-Ask.is, sym c.own.ensures ∙ c.in-Some.is)
    (ask_stays facts c.in-Some.command before after gains (sym c.changes.ensures ∙ no)))

pub returns-in-Some-own-clause-still : goal.returns-in-Some-own-clause-still
returns-in-Some-own-clause-still c = denied c.takes.result (λ no facts choice before after gains.
    rw (c.in-Ack.is, sym c.own-in-Ack.ensures ∙ c.in-Some-own.is)
    (ack_stays facts c.in-Some-own.command before after gains (sym c.takes.ensures ∙ no)))
