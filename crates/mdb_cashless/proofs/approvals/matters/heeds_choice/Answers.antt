-- Where nothing may be either new or told again, nor a reset, each choice goes as the plain one.
use Rattle.mdb_cashless.proofs.Words.{◌∙◌, false, sym, Plain, messages_of, part_of, no_restart}
use Rattle.mdb_cashless.specs.ExtendedReader.{ReplyStep, VmcAckStep}
use Rattle.mdb_cashless.specs.shared.ApprovalWays.{own_as}
use Rattle.mdb_cashless.proofs.ApprovalsLeft.{ack_unheeded, reply_unheeded}
use Rattle.mdb_cashless.proofs.ReaderMoves.{denied}
use Rattle.mdb_cashless.proofs.approvals.matters.heeds_choice.Goals as goal

pub returns-in-VmcAck : goal.returns-in-VmcAck
returns-in-VmcAck c =
    denied c.args.state.again (λ free unit facts choice after gains stands. rw c.in-VmcAck.is (
    own_as (λ its. VmcAckStep facts c.in-VmcAck.field-1 choice)
    (λ its. VmcAckStep facts c.in-VmcAck.field-1 Plain) (λ its found.
    ack_unheeded facts c.in-VmcAck.field-1 choice c.args.state after gains free)))

pub returns-else-may_be_either : goal.returns-else-may_be_either
returns-else-may_be_either c =
    denied c.tells_of_reset.result (λ none unit facts choice after gains stands. rw c.in-Reply.is (
    own_as (λ its. ReplyStep facts its c.in-Reply.reply choice)
    (λ its. ReplyStep facts its c.in-Reply.reply Plain) (λ its found.
    reply_unheeded facts its c.in-Reply.field-0 c.in-Reply.reply choice c.args.state after gains
    (no_restart false part_of (messages_of c.in-Reply.reply)
    (sym none ∙ c.tells_of_reset.ensures)) (sym c.may_be_either.ensures ∙ c.if-may_be_either.false)
    (rw c.in-Reply.is at stands))))
