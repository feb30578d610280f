-- What is known of a reader after a list of acts, by the extended profile (this profile). Acts
-- stand newest first.
use Rattle.std.specs.Prelude.{ℕ, Bool, true, false, not, ◌&&◌, List, [], ◌∷◌, Option, Some, None}
use Rattle.std.specs.List.{filter_map}
use Rattle.mdb_msgs.specs.Setups.{config_known}
use Rattle.mdb_msgs.specs.declared.command.ReaderCommand.{ReaderCommand}
use Rattle.mdb_msgs.specs.declared.command.ReaderCommand.TheVariants as reader
use Rattle.mdb_msgs.specs.declared.command.ReaderUnit.{ReaderUnit}
use Rattle.mdb_msgs.specs.declared.reply.reader.ReaderMsg.{ReaderMsg}
use Rattle.mdb_msgs.specs.declared.reply.reader.ReaderMsg.TheVariants as messages
use Rattle.mdb_msgs.specs.declared.setups.ReaderConfig.{ReaderConfig}
use Rattle.mdb_bus.specs.declared.act.Act.{Act}
use Rattle.mdb_bus.specs.declared.act.Act.TheVariants as acts
use Rattle.mdb_bus.specs.declared.scope.Beginning.{Beginning}
use Rattle.mdb_bus.specs.declared.scope.Beginning.TheVariants.{PowerOn, Joined}
use Rattle.mdb_machine.specs.Known as known
use Rattle.mdb_machine.specs.Known.{Is, Known}
use Rattle.mdb_machine.specs.Past.{or_else, unless_empty}
use Rattle.mdb_machine.specs.KnownMore.{known_more}
use Rattle.mdb_cashless.specs.declared.approvals.sale.Sale.{Sale}
use Rattle.mdb_cashless.specs.declared.approvals.sale.Sale.TheVariants.{Unknown, Unawaited, Nothing, Awaited, Asked, Approved, Sold}
use Rattle.mdb_cashless.specs.ReaderFacts.{own_messages, own_transaction}
use Rattle.mdb_cashless.specs.ReaderMessages.{amount_in, config_in, last_said, messages_of}
use Rattle.mdb_cashless.specs.Transactions.{is_request}
use Rattle.mdb_cashless.specs.Units.{own}

-- the amounts of messages 05, in their order
abbrev pub approvals_in : List ReaderMsg → List ℕ
approvals_in messages = filter_map amount_in messages

-- VEND CANCEL ends a sale that is approved or sold, and leaves one that may yet be approved.
abbrev pub cancelled : Sale → Sale
cancelled Awaited = Awaited
cancelled Asked = Asked
cancelled Unknown = Unknown
cancelled sale = Nothing

-- the sale after a command that the controller asks of the reader
abbrev pub sale_asked : Option ReaderCommand → Sale → Sale
sale_asked (Some reader.Reset) sale = Nothing
sale_asked (Some (reader.VendRequest price item)) sale = Awaited
sale_asked (Some reader.VendCancel) sale = cancelled sale
sale_asked (Some (reader.VendSuccess item)) sale = Sold item
sale_asked (Some reader.VendFailure) sale = Nothing
sale_asked (Some reader.SessionComplete) sale = Nothing
sale_asked command sale = sale

-- After 00 and 06 the controller doesn't await an approval.
abbrev pub unawaited : Sale → Sale
unawaited Awaited = Asked
unawaited Unknown = Unawaited
unawaited sale = sale

-- the sale after a message that the controller acknowledges
abbrev pub sale_heard : ReaderMsg → Sale → Sale
sale_heard messages.JustReset sale = unawaited sale
sale_heard messages.VendDenied sale = unawaited sale
sale_heard (messages.VendApproved amount) Awaited = Approved amount
sale_heard (messages.VendApproved amount) Asked = Approved amount
sale_heard (messages.VendApproved amount) sale = unawaited sale
sale_heard message sale = sale

-- after messages, one after another
abbrev pub sale_all_heard : List ReaderMsg → Sale → Sale
sale_all_heard [] sale = sale
sale_all_heard (message ∷ messages) sale = sale_all_heard messages (sale_heard message sale)

-- What is known. Breaks and RESETs leave all but the sale.
pub record Facts : Type 0 where
  -- the last config message, of the last reply that has one
  pub config : Option ReaderConfig
  -- the amount of the last message 05, of the last reply that has one
  pub amount : Option ℕ
  -- the amounts of all messages 05 of that reply
  pub approvals : Known (List ℕ)
  -- the sale under way
  pub sale : Sale
  -- whether it may have been requested before the recording: this begins in mid-session, and has no
  -- VEND REQUEST to the reader
  pub earlier : Bool

-- What is known at the start. The config message may be known from elsewhere.
abbrev pub first_facts : Beginning → ReaderUnit → Facts
first_facts (PowerOn profile) unit = record {
  config = None;
  amount = None;
  approvals = Is [];
  sale = Nothing;
  earlier = false;
}
first_facts (Joined setups profile) unit = record {
  config = config_known setups unit;
  amount = None;
  approvals = known.Unknown;
  sale = Unknown;
  earlier = true;
}

-- once the controller asks a command of the reader
abbrev pub facts_asked : Option ReaderCommand → Facts → Facts
facts_asked command facts = record facts {
  sale = sale_asked command facts.sale;
  earlier = not (is_request (own_transaction command)) && facts.earlier;
}

-- once the reader tells messages: they leave the sale, until the controller acknowledges them
abbrev pub facts_told : List ReaderMsg → Facts → Facts
facts_told messages facts = record facts {
  config = or_else (last_said config_in messages) facts.config;
  amount = or_else (last_said amount_in messages) facts.amount;
  approvals = known_more (unless_empty (approvals_in messages)) facts.approvals;
}

-- after an act
abbrev pub facts_after : ReaderUnit → Act → Facts → Facts
facts_after unit (acts.Ask command) facts = facts_asked (own unit command) facts
facts_after unit (acts.Reply command reply) facts =
    facts_told (own_messages unit command (messages_of reply)) facts
facts_after unit (acts.VmcAck command reply) facts = record facts {
  sale = sale_all_heard (own_messages unit command (messages_of reply)) facts.sale;
}
facts_after unit (acts.Break length) facts = record facts { sale = Nothing }
facts_after unit act facts = facts

-- and after acts
abbrev pub facts_of : Beginning → ReaderUnit → List Act → Facts
facts_of begins unit [] = first_facts begins unit
facts_of begins unit (act ∷ acts) = facts_after unit act (facts_of begins unit acts)
