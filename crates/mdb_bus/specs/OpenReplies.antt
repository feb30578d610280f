-- What open makes of a reader's reply (this profile): what any other format of the extended profile
-- does, or it leaves the reply out.
use Rattle.std.specs.Prelude.{◌≡◌, true}
use Rattle.mdb_msgs.specs.declared.command.Command.{Command}
use Rattle.mdb_msgs.specs.declared.fault.MsgFault.{MsgFault}
use Rattle.mdb_msgs.specs.declared.fault.MsgFault.TheVariants.{Profile}
use Rattle.mdb_msgs.specs.declared.reply.Reply.{Reply}
use Rattle.mdb_msgs.specs.Readings.{is_extended}
use Rattle.mdb_msgs.specs.Replies.{IsReplyTo, reply_bytes}
use Rattle.mdb_bus.specs.declared.format.Format.{Format}
use Rattle.mdb_bus.specs.declared.format.Format.TheVariants.{As, Or, Open}
use Rattle.mdb_bus.specs.Formats.{HasFault, IsReadAs}

-- a format of a reader's reply by the extended profile
abbrev pub IsExtended : Format → Type 0
IsExtended (As reading) = ⊥
IsExtended (Or first second) = (is_extended first ≡ true) × (is_extended second ≡ true)
IsExtended Open = Unit {0}

-- what open reads is what each such format reads of the same bytes
abbrev pub OpenAgrees : Type 0
OpenAgrees =
    (format : Format) (command : Command) (one other : Reply) → IsExtended format
    → IsReadAs format command one → IsReadAs Open command other → IsReplyTo command one
    → IsReplyTo command other → reply_bytes one ≡ reply_bytes other → one ≡ other

-- what such a format reads has no fault as open but that it is left out
abbrev pub OpenLeavesOut : Type 0
OpenLeavesOut =
    (format : Format) (command : Command) (reply : Reply) (fault : MsgFault)
    → IsExtended format → IsReadAs format command reply → IsReplyTo command reply
    → HasFault Open command (reply_bytes reply) fault → fault ≡ Profile
