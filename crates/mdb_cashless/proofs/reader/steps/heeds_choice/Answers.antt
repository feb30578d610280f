-- A choice is heeded where it may lead elsewhere than the plain one.
use Rattle.mdb_cashless.proofs.Words.{false, sym, ◌∙◌, ◌≡◌, rules, messages_of, part_of, OnFalse_at, no_restart, Command, Act}
use Rattle.mdb_cashless.proofs.Choices.{unheard, unread, untaken}
use Rattle.mdb_cashless.proofs.ReaderMoves.{denied}
use Rattle.mdb_cashless.proofs.reader.steps.heeds_choice.Goals as goal

pub returns-in-Ack-Reader : goal.returns-in-Ack-Reader
returns-in-Ack-Reader c =
    let act : c.args.act.now ≡ Act.Ack (Command.Reader c.in-Ack-Reader.field-0-0
    c.in-Ack-Reader.command) = search rules in
    denied c.heeds_taking.result (λ no unit facts choice after gains stands. rw act
    (untaken unit facts c.args.state after gains c.in-Ack-Reader.field-0-0 c.in-Ack-Reader.command
    choice (OnFalse_at no c.heeds_taking.ensures)))

pub returns-in-Reply : goal.returns-in-Reply
returns-in-Reply c =
    denied c.tells_of_reset.result (λ no unit facts choice after gains stands. rw c.in-Reply.is
    (unread unit facts c.args.state after gains c.in-Reply.field-0 c.in-Reply.reply choice
    (no_restart false part_of (messages_of c.in-Reply.reply) (sym no ∙ c.tells_of_reset.ensures))
    (rw c.in-Reply.is at stands)))

pub returns-in-VmcAck : goal.returns-in-VmcAck
returns-in-VmcAck c =
    denied c.args.state.holds (λ free unit facts choice after gains stands. rw c.in-VmcAck.is
    (unheard unit facts c.args.state after gains c.in-VmcAck.field-0 c.in-VmcAck.field-1 choice
    free))
