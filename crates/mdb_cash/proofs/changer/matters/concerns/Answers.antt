-- An ACK of no messages leaves the state.
use Rattle.mdb_cash.proofs.Words.{◌≡◌, refl, rules, idle}
use Rattle.mdb_msgs.specs.declared.command.Command.TheVariants as commands
use Rattle.mdb_bus.specs.declared.act.Act.TheVariants as acts
use Rattle.mdb_cash.specs.Changer.{conduct}
use Rattle.mdb_cash.specs.ChangerFacts.{tables}
use Rattle.mdb_cash.specs.ChangerMessages.{part_of}
use Rattle.mdb_cash.proofs.changer.matters.concerns.Goals as goal

pub returns-in-VmcAck-Changer-default-clause-still :
    goal.returns-in-VmcAck-Changer-default-clause-still
returns-in-VmcAck-Changer-default-clause-still c =
    let act : c.args.act.now
    ≡ acts.VmcAck (commands.Changer c.in-VmcAck-Changer-default.field-0-0)
    c.in-VmcAck-Changer-default.reply = search rules in
    idle tables conduct part_of _ _ _ _ _ _ act refl
    c.messages_in.ensures.parts c.is_empty.ensures
