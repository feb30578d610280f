-- What counts of a reader's reply by the extended profile: what money hangs on (this profile).
use Rattle.std.specs.Prelude.{Bool, true, false, not, ◌&&◌, List, [], ◌∷◌}
use Rattle.std.specs.List.{filter, list_any}
use Rattle.mdb_msgs.specs.declared.reply.Reply.{Reply}
use Rattle.mdb_msgs.specs.declared.reply.Reply.TheVariants as replies
use Rattle.mdb_msgs.specs.declared.reply.reader.ReaderMsg.{ReaderMsg}
use Rattle.mdb_msgs.specs.declared.reply.reader.ReaderMsg.TheVariants.{JustReset, Config, OutOfSequence, OutOfSequenceIn, VendApproved, VendDenied}
use Rattle.mdb_msgs.specs.Reader.{is_kept}

-- whether a message is 00, 01, 05 or 06
abbrev pub counts : ReaderMsg → Bool
counts JustReset = true
counts (Config level code scale decimals response options) = true
counts (VendApproved amount) = true
counts VendDenied = true
counts message = false

-- whether a message is a reader's 0B, with a status or without one
abbrev pub is_refusal : ReaderMsg → Bool
is_refusal OutOfSequence = true
is_refusal (OutOfSequenceIn status) = true
is_refusal message = false

-- whether messages may be read as telling of a restart: there is a 00, and no message 03, 05, 06 or
-- 07 in front of the first one
abbrev pub may_restart : List ReaderMsg → Bool
may_restart [] = false
may_restart (JustReset ∷ messages) = true
may_restart (message ∷ messages) = not (is_kept message) && may_restart messages

-- What counts of messages: those that count, with all their bytes; whether one is a 0B; and whether
-- they may tell of a restart.
pub record Counted : Type 0 where
  pub messages : List ReaderMsg
  pub refuses : Bool
  pub restarts : Bool

abbrev pub counted : List ReaderMsg → Counted
counted messages = record {
  messages = filter counts messages;
  refuses = list_any is_refusal messages;
  restarts = may_restart messages;
}

-- what counts of a reply; readings differ in a reader's alone
abbrev pub what_counts : Reply → Counted
what_counts (replies.Reader list) = counted list.messages
what_counts reply = counted []
