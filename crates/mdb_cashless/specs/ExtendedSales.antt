-- Sales that were approved by the extended profile: what stands before a VEND SUCCESS that the
-- controller asks (MDB/ICP 4.3, cashless device, for the order of request, approval and success;
-- what may come between, this profile). Acts stand newest first.
use Rattle.std.specs.Prelude.{◌≡◌, ◌⊎◌, ℕ, Bool, true, false, not, ◌&&◌, ◌||◌, List, [], ◌∷◌, ◌++◌, Option, Some}
use Rattle.std.specs.List.{list_any}
use Rattle.std.specs.Option.{option_map_or}
use Rattle.mdb_msgs.specs.declared.command.Command.TheVariants.{Reader}
use Rattle.mdb_msgs.specs.declared.command.ReaderCommand.{ReaderCommand}
use Rattle.mdb_msgs.specs.declared.command.ReaderCommand.TheVariants as reader
use Rattle.mdb_msgs.specs.declared.command.ReaderUnit.{ReaderUnit}
use Rattle.mdb_bus.specs.declared.act.Act.{Act}
use Rattle.mdb_bus.specs.declared.act.Act.TheVariants as acts
use Rattle.mdb_bus.specs.declared.scope.Beginning.{Beginning}
use Rattle.mdb_machine.specs.Choices.{is_approval}
use Rattle.mdb_cashless.specs.declared.reader.transaction.Transaction.{Transaction}
use Rattle.mdb_cashless.specs.declared.reader.transaction.Transaction.TheVariants.{Cancel, Success}
use Rattle.mdb_cashless.specs.ReaderFacts.{own_messages, own_transaction}
use Rattle.mdb_cashless.specs.ReaderMessages.{messages_of}
use Rattle.mdb_cashless.specs.Sales.{MayBeRequestedBefore}
use Rattle.mdb_cashless.specs.Transactions.{is_request, is_same}
use Rattle.mdb_cashless.specs.Units.{own}
use Rattle.mdb_cashless.specs.shared.SaleViews.{AcksLastReply}

-- whether the controller asks a VEND REQUEST of this reader by an act
abbrev pub asks_request : ReaderUnit → Act → Bool
asks_request unit (acts.Ask command) = is_request (own_transaction (own unit command))
asks_request unit act = false

-- whether the controller acknowledges by an act a reply of this reader that has a message 05
abbrev pub hears_approval : ReaderUnit → Act → Bool
hears_approval unit (acts.VmcAck command reply) =
    list_any is_approval (own_messages unit command (messages_of reply))
hears_approval unit act = false

-- Whether an act leaves a sale at this reader as it stands: it is no break, it does not ask the
-- reader to RESET, and a transaction command that it asks of the reader is this one.
abbrev pub leaves_asked : Transaction → Option ReaderCommand → Bool
leaves_asked may (Some reader.Reset) = false
leaves_asked may command = option_map_or (is_same may) (own_transaction command) true

abbrev pub leaves_sale : ReaderUnit → Transaction → Act → Bool
leaves_sale unit may (acts.Ask command) = leaves_asked may (own unit command)
leaves_sale unit may (acts.Break length) = false
leaves_sale unit may act = true

-- Whether a sale at this reader may be approved: VEND REQUEST was asked, and since then the acts
-- have left the sale as it stands, where VEND CANCEL may have come. The controller has heard no
-- approval since.
abbrev pub is_open : ReaderUnit → List Act → Bool
is_open unit [] = false
is_open unit (act ∷ acts) = asks_request unit act
    || (leaves_sale unit Cancel act && (not (hears_approval unit act) && is_open unit acts))

-- A sale of an item at this reader is approved: it was open, the reader replied to some command
-- with a message 05, and the controller acknowledged that reply or its repeat. Since then the acts
-- have left the sale as it stands, where VEND SUCCESS of the item may have come.
abbrev pub IsApproved : ReaderUnit → ℕ → List Act → Type 0
IsApproved unit item [] = ⊥
IsApproved unit item (act ∷ acts) =
    ((hears_approval unit act ≡ true) × AcksLastReply act acts × (is_open unit acts ≡ true))
    ⊎ ((leaves_sale unit (Success item) act ≡ true) × IsApproved unit item acts)

-- Each sale at this reader follows its approval, but for one that may have been requested before
-- the recording.
abbrev pub SalesAreApproved : Beginning → ReaderUnit → List Act → Type 0
SalesAreApproved begins unit so_far = (later before : List Act) (item : ℕ)
    → so_far ≡ later ++ (acts.Ask (Reader unit (reader.VendSuccess item)) ∷ before)
    → IsApproved unit item before ⊎ MayBeRequestedBefore begins unit before

-- where the controller acknowledges a reply, the acts before end in that
abbrev pub AcksAreOfReplies : List Act → Type 0
AcksAreOfReplies [] = Unit {0}
AcksAreOfReplies (act ∷ acts) = AcksLastReply act acts × AcksAreOfReplies acts
