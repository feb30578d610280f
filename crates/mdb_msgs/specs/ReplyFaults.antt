-- The block of a reply, and why a reply has none.
use Rattle.std.specs.Prelude.{◌≤◌, length, ◌≡◌, ◌≢◌, ℕ, ◌⊎◌, List, Some, None}
use Rattle.mdb_msgs.specs.declared.fault.MsgFault.{MsgFault}
use Rattle.mdb_msgs.specs.declared.fault.MsgFault.TheVariants.{Length, Message, Profile, Answer}
use Rattle.mdb_msgs.specs.Reader.{IsReaderList, ReaderMessages, reader_list_bytes}
use Rattle.mdb_words.specs.Block.{block_of}
use Rattle.mdb_msgs.specs.declared.answer.DataForm.{DataForm}
use Rattle.mdb_msgs.specs.declared.command.Command.{Command}
use Rattle.mdb_msgs.specs.declared.reply.Reply.{Reply}
use Rattle.mdb_msgs.specs.Answers.{form_of, IsDataLength}
use Rattle.mdb_msgs.specs.declared.fault.MsgFault.TheVariants as faults
use Rattle.mdb_msgs.specs.Replies.{HasFields, IsReplyTo, form_of_reply, reply_bytes}

-- its bytes are as many as a block can carry beside their sum
abbrev pub FitsABlock : ReaderMessages → Type 0
FitsABlock list = (1 ≤ length (reader_list_bytes list)) × (length (reader_list_bytes list) ≤ 35)

-- a list that a block can carry
abbrev pub IsReaderBlock : ReaderMessages → Type 0
IsReaderBlock list = FitsABlock list × IsReaderList list

-- why messages and texts are no such list, in the order in which the checks are made
abbrev pub IsListFault : ReaderMessages → MsgFault → Type 0
IsListFault list Length = FitsABlock list → ⊥
IsListFault list Message = FitsABlock list × (IsReaderList list → ⊥)
IsListFault list Profile = ⊥
IsListFault list Answer = ⊥

-- a reply to a command and its block
pub record SpellsReply (command : Command) (reply : Reply) (block : List ℕ) : Type 0 where
  pub answers : IsReplyTo command reply
  pub bytes : block ≡ block_of (reply_bytes reply)

-- why a reply to a command has no block, in the order in which the checks are made
abbrev pub IsWriteFault : Command → Reply → MsgFault → Type 0
IsWriteFault command reply faults.Length =
    (form : DataForm) × (form_of command ≡ Some form)
    × (IsDataLength form (length (reply_bytes reply)) → ⊥)
IsWriteFault command reply faults.Message =
    (form : DataForm) × (form_of command ≡ Some form)
    × IsDataLength form (length (reply_bytes reply))
    × ((form_of_reply reply ≢ form) ⊎ (HasFields reply → ⊥))
IsWriteFault command reply faults.Profile = ⊥
IsWriteFault command reply faults.Answer = form_of command ≡ None
