-- An ask, an ACK or a reply steps by its kind, and any other act but a break changes nothing.
use Rattle.mdb_machine.proofs.Words.{sym, ◌∙◌, facts_in}
use Rattle.mdb_machine.proofs.KeeperConduct.{no_part}
use Rattle.mdb_machine.proofs.conduct.step.Goals as goal

pub returns-in-Some-clause-step : goal.returns-in-Some-clause-step
returns-in-Some-clause-step g c =
    rw (c.in-Ask.is, sym c.own.ensures ∙ c.in-Some.is) c.ask.ensures.step

pub returns-in-Some-own-clause-step : goal.returns-in-Some-own-clause-step
returns-in-Some-own-clause-step g c =
    rw (c.in-Ack.is, sym c.own-in-Ack.ensures ∙ c.in-Some-own.is) c.ack.ensures.step

pub returns-in-Some-own-2-clause-step : goal.returns-in-Some-own-2-clause-step
returns-in-Some-own-2-clause-step g c =
    rw (c.in-Reply.is, sym c.own-in-Reply.ensures ∙ c.in-Some-own-2.is) c.reply_with.ensures.step

pub returns-in-Some-own-3-clause-step : goal.returns-in-Some-own-3-clause-step
returns-in-Some-own-3-clause-step g c =
    rw (c.in-VmcAck.is, sym c.own-in-VmcAck.ensures ∙ c.in-Some-own-3.is) c.vmc_ack.ensures.step

pub returns-in_default-clause-step : goal.returns-in_default-clause-step
returns-in_default-clause-step g c =
    let known = facts_in c.args.facts.now in
    let none = c.in_default in
    no_part g.K.Keeper.tables g.K.Conduct.conduct known c.args.choice c.args.before
    c.none-in_default.result c.none-in_default.ensures c.args.act.now
    none.not-Ask none.not-Ack none.not-Reply none.not-VmcAck none.not-Break
