-- How a reply's reading is chosen before it is read.
use Rattle.std.specs.Prelude.{◌≡◌, ◌⊎◌, Bool, true, false, List, ℕ, Result, Ok, Err}
use Rattle.std.specs.List.{list_any}
use Rattle.mdb_msgs.specs.declared.command.Command.{Command}
use Rattle.mdb_msgs.specs.declared.fault.MsgFault.{MsgFault}
use Rattle.mdb_msgs.specs.declared.fault.MsgFault.TheVariants.{Profile as Left}
use Rattle.mdb_msgs.specs.declared.reading.Reading.{Reading}
use Rattle.mdb_msgs.specs.declared.reply.Reply.{Reply}
use Rattle.mdb_msgs.specs.declared.reply.Reply.TheVariants as replies
use Rattle.mdb_msgs.specs.declared.reply.reader.ReaderMsg.{ReaderMsg}
use Rattle.mdb_msgs.specs.declared.reply.reader.ReaderMsg.TheVariants.{BeginSession, BeginSessionLong, OutOfSequence, OutOfSequenceIn, PeripheralId, PeripheralIdWithOptions, TimeAsked}
use Rattle.mdb_msgs.specs.Replies.{IsIn, IsReplyTo, reply_bytes}
use Rattle.mdb_bus.specs.declared.format.Format.{Format}
use Rattle.mdb_bus.specs.declared.format.Format.TheVariants.{As}
use Rattle.mdb_bus.specs.Formats.{HasFault, IsReadAs}
use Rattle.mdb_bus.specs.ExtendedFormats.{AreSome, HasOpenFault, IsReadOpen}
use Rattle.mdb_bus.specs.ExtendedCounts.{what_counts}

-- data bytes are a reply to a command in a reading
abbrev pub AreReply : Reading → Command → List ℕ → Reply → Type 0
AreReply reading command bytes reply =
    IsIn reading command reply × IsReplyTo command reply × (bytes ≡ reply_bytes reply)

-- whether readings differ in a message
abbrev pub varies : ReaderMsg → Bool
varies (BeginSession funds) = true
varies (BeginSessionLong funds media kind details) = true
varies PeripheralId = true
varies (PeripheralIdWithOptions options) = true
varies OutOfSequence = true
varies (OutOfSequenceIn status) = true
varies TimeAsked = true
varies message = false

-- a reply is a reader's, and readings differ in none of its messages
abbrev pub IsPlainList : Reply → Type 0
IsPlainList (replies.Reader list) = list_any varies list.messages ≡ false
IsPlainList reply = ⊥

-- bytes that are this reply say in each reading of the extended profile the same of what counts
abbrev pub AreAlike : Command → List ℕ → Reply → Type 0
AreAlike command bytes reply =
    (other : Reply) → AreSome command bytes other → what_counts other ≡ what_counts reply

-- the reading of open bytes, or this one where they have a fault
abbrev pub IsOpenOr : Reading → Command → List ℕ → Reading → Type 0
IsOpenOr told command bytes reading =
    ((reply : Reply) × AreReply reading command bytes reply × IsReadOpen command reply)
    ⊎ ((reading ≡ told) × (fault : MsgFault) × HasOpenFault command bytes fault)

-- of the faults in four readings: Profile, if it is one of them, and else the first
abbrev pub joint_fault : MsgFault → MsgFault → MsgFault → MsgFault → MsgFault
joint_fault Left two three four = Left
joint_fault one Left three four = Left
joint_fault one two Left four = Left
joint_fault one two three Left = Left
joint_fault one two three four = one

-- bytes are read in this reading in a format, or have this fault in it
abbrev pub IsReadingIn : Format → Command → List ℕ → Result Reading MsgFault → Type 0
IsReadingIn (As given) command bytes reading = reading ≡ Ok given
IsReadingIn format command bytes (Ok reading) = (reply : Reply)
    × AreReply reading command bytes reply × IsReadAs format command reply
IsReadingIn format command bytes (Err fault) = HasFault format command bytes fault
