-- An ask, an ACK, a reply and the controller's ACK each step by their kind.
use Rattle.mdb_cashless.proofs.Words.{◌∙◌, sym}
use Rattle.mdb_cashless.proofs.approvals.steps.step.Goals as goal

pub returns-in-Some-clause-step : goal.returns-in-Some-clause-step
returns-in-Some-clause-step c =
    rw (c.in-Ask.is, sym c.own.ensures ∙ c.in-Some.is) c.ask.ensures.step

pub returns-in-Some-own-clause-step : goal.returns-in-Some-own-clause-step
returns-in-Some-own-clause-step c =
    rw (c.in-Ack.is, sym c.own-in-Ack.ensures ∙ c.in-Some-own.is) c.ack.ensures.step

pub returns-in-Some-own-2-clause-step : goal.returns-in-Some-own-2-clause-step
returns-in-Some-own-2-clause-step c =
    rw (c.in-Reply.is, sym c.own-in-Reply.ensures ∙ c.in-Some-own-2.is) c.answer.ensures.step

pub returns-in-Some-own-3-clause-step : goal.returns-in-Some-own-3-clause-step
returns-in-Some-own-3-clause-step c =
    rw (c.in-VmcAck.is, sym c.own-in-VmcAck.ensures ∙ c.in-Some-own-3.is) c.vmc_ack.ensures.step
