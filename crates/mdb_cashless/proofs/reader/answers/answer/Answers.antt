-- A reply is the one step that tells what the code has found in it, or none.
use Rattle.mdb_cashless.proofs.Words.{◌∙◌, sym}
use Rattle.mdb_cashless.proofs.Answered.{looked_by, told, untold}
use Rattle.mdb_cashless.proofs.Said.{or_is}
use Rattle.mdb_cashless.proofs.reader.answers.answer.Goals as goal

pub returns-in_err-new-clause-step : goal.returns-in_err-new-clause-step
returns-in_err-new-clause-step c =
    let said = rw c.messages_of.ensures.messages at c.read.ensures in
    rw c.from_residual.ensures (untold (looked_by c.is_poll.ensures
    (c.taken-taken.ensures c.args.reply.now said.refused_is) c.read-start.ensures
    c.owes_reset.ensures c.take_any-middle.ensures c.as_slice.ensures.value c.held-held.ensures
    said.summary_is) c.in_err-new.ensures.none)

pub returns-clause-step : goal.returns-clause-step
returns-clause-step c =
    let said = rw c.messages_of.ensures.messages at c.read.ensures in
    let taken_is = c.taken-taken.ensures c.args.reply.now said.refused_is in
    told (looked_by c.is_poll.ensures taken_is c.read-start.ensures c.owes_reset.ensures
    c.take_any-middle.ensures c.as_slice.ensures.value c.held-held.ensures said.summary_is)
    c.in_ok-new.ensures.found c.in_ok-new.ensures.only
    (rw taken_is at c.last_transaction.ensures) (sym c.all_told.ensures ∙ c.in_ok-device.was)
    (rw c.as_slice-2.ensures.value at c.holds_after.ensures)
    (rw (or_is c.read.new.self.config c.args.facts.now.config, said.config_is) at
    c.or-config.ensures) c.all_approved-approved.ensures.value
    (rw (taken_is, c.read-start.ensures) at c.sold_any.ensures.value)
    (rw c.amounts.ensures.amounts at c.of_device.ensures.gains)
