-- A reader's messages as it keeps them, and what they say of it (MDB/ICP 4.3, cashless device; what
-- is kept, this profile).
use Rattle.std.specs.Prelude.{ℕ, Bool, true, false, List, [], ◌∷◌, Option, Some, None, map}
use Rattle.std.specs.List.{list_any}
use Rattle.mdb_msgs.specs.declared.reply.Reply.{Reply}
use Rattle.mdb_msgs.specs.declared.reply.Reply.TheVariants as replies
use Rattle.mdb_msgs.specs.declared.reply.reader.ReaderMsg.{ReaderMsg}
use Rattle.mdb_msgs.specs.declared.reply.reader.ReaderMsg.TheVariants as messages
use Rattle.mdb_machine.specs.declared.kept.Part.{Part}
use Rattle.mdb_machine.specs.declared.kept.Part.TheVariants as part
use Rattle.mdb_machine.specs.Past.{or_else}
use Rattle.mdb_msgs.specs.declared.setups.ReaderConfig.{ReaderConfig}
use Rattle.mdb_cashless.specs.declared.reader.messages.ReaderActivity.{ReaderActivity}
use Rattle.mdb_cashless.specs.declared.reader.messages.ReaderActivity.TheVariants.{SessionBegun, SessionBegunLong, VendApproved, VendDenied, SessionEnded}

-- The messages 03, 05, 06 and 07 are kept, and say all that their bytes are; 00 is the reset
-- message. 0D and 0E stand in no act list, and are nothing here.
abbrev pub part_of : ReaderMsg → Part ReaderActivity
part_of messages.JustReset = part.Reset
part_of (messages.BeginSession funds) = part.Kept (SessionBegun funds)
part_of (messages.BeginSessionLong funds media kind details) =
    part.Kept (SessionBegunLong funds media kind details)
part_of (messages.VendApproved amount) = part.Kept (VendApproved amount)
part_of messages.VendDenied = part.Kept VendDenied
part_of messages.EndSession = part.Kept SessionEnded
part_of message = part.Other

-- the messages of a reader's reply
abbrev pub messages_of : Reply → List ReaderMsg
messages_of (replies.Reader list) = list.messages
messages_of reply = []

-- what they are to the reader that keeps some of them
abbrev pub parts_of : Reply → List (Part ReaderActivity)
parts_of reply = map part_of (messages_of reply)

-- what a config message says of how the reader is set up
abbrev pub config_in : ReaderMsg → Option ReaderConfig
config_in (messages.Config level code scale decimals response options) =
    Some (record { scale = scale; decimals = decimals; response = response })
config_in message = None

-- the amount of a message 05
abbrev pub amount_in : ReaderMsg → Option ℕ
amount_in (messages.VendApproved amount) = Some amount
amount_in message = None

-- whether a message is 03, with which a session begins
abbrev pub begins_session : ReaderMsg → Bool
begins_session (messages.BeginSession funds) = true
begins_session (messages.BeginSessionLong funds media kind details) = true
begins_session message = false

abbrev pub begin_session : List ReaderMsg → Bool
begin_session messages = list_any begins_session messages

-- what the last message says that says something of a kind
abbrev pub last_said : {X : Type 0} → (ReaderMsg → Option X) → List ReaderMsg → Option X
last_said says [] = None
last_said says (message ∷ messages) = or_else (last_said says messages) (says message)
