-- Laws about commands and replies.
use Rattle.std.specs.Prelude.{◌≡◌, ◌≢◌, ◌<◌, ◌≤◌, ◌⊎◌, ◌++◌, Bool, List, [], ℕ, length, All, false}
use Rattle.mdb_words.specs.Block.{IsContent}
use Rattle.mdb_msgs.specs.declared.command.Command.{Command}
use Rattle.mdb_msgs.specs.declared.fault.MsgFault.{MsgFault}
use Rattle.mdb_msgs.specs.declared.command.Device.{Device}
use Rattle.mdb_msgs.specs.declared.reading.Reading.{Reading}
use Rattle.mdb_msgs.specs.declared.reply.Reply.{Reply}
use Rattle.mdb_msgs.specs.Answers.{HasDataAnswer}
use Rattle.mdb_msgs.specs.Commands.{IsByte, Spells, is_enable_options}
use Rattle.mdb_msgs.specs.Needs.{begins_options}
use Rattle.mdb_msgs.specs.OpenBlocks.{IsOpen}
use Rattle.mdb_msgs.specs.declared.setups.Setups.{Setups}
use Rattle.mdb_msgs.specs.SetupData.{IsSetupOf}
use Rattle.mdb_msgs.specs.Replies.{reply_bytes, IsIn, IsReplyTo, IsReadFault}
use Rattle.mdb_msgs.specs.ReplyFaults.{SpellsReply}

-- open bytes are the front of some command's block
abbrev pub OpenIsAFront : Type 0
OpenIsAFront =
    (bytes : List ℕ)
    → All IsByte bytes → IsOpen bytes
    → (command : Command) × (rest : List ℕ) × (rest ≢ []) × Spells command (bytes ++ rest)

-- and where they don't begin as ENABLE OPTIONS does, of one that isn't it
abbrev pub OpenIsAnothersFront : Type 0
OpenIsAnothersFront =
    (bytes : List ℕ)
    → All IsByte bytes → IsOpen bytes → begins_options bytes ≡ false
    → (command : Command) × (rest : List ℕ) × (rest ≢ []) × Spells command (bytes ++ rest)
    × (is_enable_options command ≡ false)

-- the front of a command's block is open, as long as it is not the whole block
abbrev pub FrontIsOpen : Type 0
FrontIsOpen =
    (front rest : List ℕ) (command : Command)
    → 0 < length front → rest ≢ [] → Spells command (front ++ rest) → IsOpen front

-- for a command and a reading, a block has at most one reply
abbrev pub BlockHasOneReply : Type 0
BlockHasOneReply =
    (reading : Reading) (command : Command) (block : List ℕ) (one other : Reply)
    → IsIn reading command one → IsIn reading command other → SpellsReply command one block
    → SpellsReply command other block → one ≡ other

-- the data bytes of a reply are as many as the command allows
abbrev pub ReplyHasItsLength : Type 0
ReplyHasItsLength =
    (command : Command) (reply : Reply)
    → IsReplyTo command reply → HasDataAnswer command (length (reply_bytes reply))

-- a command allows no data answer of no bytes, or of more than a block has
abbrev pub DataFitsABlock : Type 0
DataFitsABlock =
    (command : Command) (count : ℕ) → HasDataAnswer command count → (1 ≤ count) × (count ≤ 35)

-- data bytes are a reply to a command, or have a fault
abbrev pub DataIsAReplyOrHasAFault : Type 0
DataIsAReplyOrHasAFault =
    (reading : Reading) (command : Command) (bytes : List ℕ)
    → IsContent bytes
    → ((reply : Reply) × IsReplyTo command reply × IsIn reading command reply
    × (bytes ≡ reply_bytes reply))
    ⊎ ((fault : MsgFault) × IsReadFault reading command bytes fault)

-- data bytes that are a reply have no fault
abbrev pub ReplyHasNoFault : Type 0
ReplyHasNoFault =
    (reading : Reading) (command : Command) (reply : Reply) (fault : MsgFault)
    → IsReplyTo command reply → IsIn reading command reply
    → IsReadFault reading command (reply_bytes reply) fault → ⊥

-- data bytes have at most one fault
abbrev pub BytesHaveOneFault : Type 0
BytesHaveOneFault =
    (reading : Reading) (command : Command) (bytes : List ℕ) (one other : MsgFault)
    → IsReadFault reading command bytes one → IsReadFault reading command bytes other → one ≡ other

-- with a device's answer to SETUP, one thing is known
abbrev pub AnswerTellsOneSetup : Type 0
AnswerTellsOneSetup =
    (extended : Bool) (device : Device) (block : List ℕ) (before one other : Setups)
    → IsSetupOf extended device block before one → IsSetupOf extended device block before other
    → one ≡ other
