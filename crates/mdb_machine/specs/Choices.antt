-- What can be chosen of an act, where the transcript doesn't tell it (this profile).
use Rattle.std.specs.Prelude.{◌≡◌, Bool, true, false}
use Rattle.std.specs.List.{list_any}
use Rattle.mdb_msgs.specs.declared.command.Command.TheVariants as commands
use Rattle.mdb_msgs.specs.declared.reply.Reply.TheVariants as replies
use Rattle.mdb_msgs.specs.declared.reply.reader.ReaderMsg.{ReaderMsg}
use Rattle.mdb_msgs.specs.declared.reply.reader.ReaderMsg.TheVariants as messages
use Rattle.mdb_bus.specs.declared.act.Act.{Act}
use Rattle.mdb_bus.specs.declared.act.Act.TheVariants as acts
use Rattle.mdb_machine.specs.declared.choice.Choice.{Choice}
use Rattle.mdb_machine.specs.declared.choice.Choice.TheVariants.{Plain, Lost, Restart, Again}

-- whether a message is a reader's 05, which approves a sale
abbrev pub is_approval : ReaderMsg → Bool
is_approval (messages.VendApproved amount) = true
is_approval message = false

-- whether an act is a reply in which a reader approves a sale
abbrev pub approves : Act → Bool
approves (acts.Reply (commands.Reader unit command) (replies.Reader list)) =
    list_any is_approval list.messages
approves act = false

-- Each act can be plain. Only an ACK, of the device or of the controller, can be one that its
-- receiver didn't hear, and only a reply one that tells of a restart. Only a reply in which a
-- reader
-- approves a sale can tell that again.
abbrev pub CanStand : Act → Choice → Type 0
CanStand act Plain = Unit {0}
CanStand act Again = approves act ≡ true
CanStand (acts.Ack command) Lost = Unit {0}
CanStand (acts.VmcAck command reply) Lost = Unit {0}
CanStand (acts.Reply command reply) Restart = Unit {0}
CanStand _ _ = ⊥
