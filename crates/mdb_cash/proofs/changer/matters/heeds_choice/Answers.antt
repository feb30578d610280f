-- A choice is heeded where it may lead elsewhere than the plain one.
use Rattle.mdb_cash.proofs.Words.{◌≡◌, refl, rules, unheard, unread}
use Rattle.mdb_msgs.specs.declared.command.Command.TheVariants as commands
use Rattle.mdb_bus.specs.declared.act.Act.TheVariants as acts
use Rattle.mdb_cash.specs.Changer.{conduct}
use Rattle.mdb_cash.specs.ChangerFacts.{tables}
use Rattle.mdb_cash.specs.ChangerMessages.{part_of}
use Rattle.mdb_cash.proofs.changer.matters.heeds_choice.Goals as goal

pub returns-in-Reply-Changer-default : goal.returns-in-Reply-Changer-default
returns-in-Reply-Changer-default c =
    let act : c.args.act.now
    ≡ acts.Reply (commands.Changer c.in-Reply-Changer-default.field-0-0)
    c.in-Reply-Changer-default.reply = search rules in
    unread tables conduct part_of _ _ _ _ _ _ _ act refl
    c.messages_in.ensures.parts c.may_all_be_read.ensures

pub returns-in-VmcAck-Changer-default : goal.returns-in-VmcAck-Changer-default
returns-in-VmcAck-Changer-default c =
    let act : c.args.act.now
    ≡ acts.VmcAck (commands.Changer c.in-VmcAck-Changer-default.field-0-0)
    c.in-VmcAck-Changer-default.field-1 = search rules in
    unheard tables conduct _ _ _ _ c.args.state _ act refl refl
