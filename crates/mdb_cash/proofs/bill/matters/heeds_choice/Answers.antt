-- A choice is heeded where it may lead elsewhere than the plain one.
use Rattle.mdb_cash.proofs.Words.{◌≡◌, refl, rules, unheard, unread}
use Rattle.mdb_msgs.specs.declared.command.Command.TheVariants as commands
use Rattle.mdb_bus.specs.declared.act.Act.TheVariants as acts
use Rattle.mdb_cash.specs.Bill.{conduct}
use Rattle.mdb_cash.specs.BillFacts.{tables}
use Rattle.mdb_cash.specs.BillMessages.{part_of}
use Rattle.mdb_cash.proofs.bill.matters.heeds_choice.Goals as goal

pub returns-in-Reply-Bill-default : goal.returns-in-Reply-Bill-default
returns-in-Reply-Bill-default c =
    let act : c.args.act.now
    ≡ acts.Reply (commands.Bill c.in-Reply-Bill-default.field-0-0)
    c.in-Reply-Bill-default.reply = search rules in
    unread tables conduct part_of _ _ _ _ _ _ _ act refl
    c.messages_in.ensures.parts c.may_all_be_read.ensures

pub returns-in-VmcAck-Bill-default : goal.returns-in-VmcAck-Bill-default
returns-in-VmcAck-Bill-default c =
    let act : c.args.act.now
    ≡ acts.VmcAck (commands.Bill c.in-VmcAck-Bill-default.field-0-0)
    c.in-VmcAck-Bill-default.field-1 = search rules in
    unheard tables conduct _ _ _ _ c.args.state _ act refl refl
