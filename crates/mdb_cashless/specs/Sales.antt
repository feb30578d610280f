-- Sales that were approved: what stands before a VEND SUCCESS that the controller asks (MDB/ICP
-- 4.3, cashless device, for the order of request, approval and success; what may come between, this
-- profile). Acts stand newest first.
use Rattle.std.specs.Prelude.{◌≡◌, ◌≢◌, ◌⊎◌, ℕ, List, ◌∷◌, ◌++◌, All, Contains, Some}
use Rattle.std.specs.Option.{ForSome}
use Rattle.mdb_msgs.specs.declared.command.Command.{Command}
use Rattle.mdb_msgs.specs.declared.command.Command.TheVariants.{Reader}
use Rattle.mdb_msgs.specs.declared.command.ReaderCommand.{ReaderCommand}
use Rattle.mdb_msgs.specs.declared.command.ReaderCommand.TheVariants as reader
use Rattle.mdb_msgs.specs.declared.command.ReaderUnit.{ReaderUnit}
use Rattle.mdb_msgs.specs.declared.reply.Reply.{Reply}
use Rattle.mdb_msgs.specs.declared.reply.reader.ReaderMsg.TheVariants as messages
use Rattle.mdb_bus.specs.declared.act.Act.{Act}
use Rattle.mdb_bus.specs.declared.act.Act.TheVariants as acts
use Rattle.mdb_bus.specs.declared.scope.Beginning.{Beginning}
use Rattle.mdb_bus.specs.declared.scope.Beginning.TheVariants.{PowerOn, Joined}
use Rattle.mdb_cashless.specs.declared.reader.transaction.Transaction.{Transaction}
use Rattle.mdb_cashless.specs.declared.reader.transaction.Transaction.TheVariants.{Request, Cancel, Success}
use Rattle.mdb_cashless.specs.ReaderFacts.{own_transaction}
use Rattle.mdb_cashless.specs.ReaderMessages.{messages_of}
use Rattle.mdb_cashless.specs.Units.{own}

-- An act leaves a sale at this reader as it stands: it is no break, it does not ask the reader to
-- RESET, and a transaction command that it asks of the reader is one that may come.
abbrev pub LeavesSale : ReaderUnit → (Transaction → Type 0) → Act → Type 0
LeavesSale unit May (acts.Ask command) = (own unit command ≢ Some reader.Reset)
    × ForSome (own_transaction (own unit command)) May
LeavesSale unit May (acts.Break length) = ⊥
LeavesSale unit May act = Unit {0}

-- The controller has requested a sale at this reader: VEND REQUEST was asked, and since then the
-- acts have left the sale as it stands, where the same request may have come again, and VEND
-- CANCEL.
pub record IsRequested (unit : ReaderUnit) (so_far : List Act) : Type 0 where
  pub price : ℕ
  pub item : ℕ
  pub since : List Act
  pub before : List Act
  pub order : so_far ≡ since ++ (acts.Ask (Reader unit (reader.VendRequest price item)) ∷ before)
  pub undecided : All (LeavesSale unit (λ t. (t ≡ Request price item) ⊎ (t ≡ Cancel))) since

-- The acts end in a reply and what was sent of it again: after it came nothing but RET for it, and
-- its repeats.
pub record EndsInReply (command : Command) (reply : Reply) (so_far : List Act) : Type 0 where
  pub again : List Act
  pub before : List Act
  pub order : so_far ≡ again ++ (acts.Reply command reply ∷ before)
  pub repeats : All (λ act. (act ≡ acts.VmcRet command reply) ⊎ (act ≡ acts.Repeat command reply))
      again

-- A sale of an item at this reader is approved: the controller had requested a sale, the reader
-- replied to some command with a message 05, and the controller acknowledged that reply or its
-- repeat. Since then the acts have left the sale as it stands, where VEND SUCCESS of the item may
-- have come, and no other transaction command.
pub record IsApproved (unit : ReaderUnit) (item : ℕ) (so_far : List Act) : Type 0 where
  pub command : ReaderCommand
  pub reply : Reply
  pub amount : ℕ
  pub since : List Act
  pub before : List Act
  pub order : so_far ≡ since ++ (acts.VmcAck (Reader unit command) reply ∷ before)
  pub unsold : All (LeavesSale unit (λ t. t ≡ Success item)) since
  pub replied : EndsInReply (Reader unit command) reply before
  pub approves : Contains (messages_of reply) (messages.VendApproved amount)
  pub requested : IsRequested unit replied.before

-- No act asks a VEND REQUEST of this reader.
abbrev pub IsUnrequested : ReaderUnit → List Act → Type 0
IsUnrequested unit so_far = (price item : ℕ)
    → Contains so_far (acts.Ask (Reader unit (reader.VendRequest price item))) → ⊥

-- The controller may have requested a sale before the recording: it begins in mid-session, and no
-- act so far asks a VEND REQUEST of this reader.
abbrev pub MayBeRequestedBefore : Beginning → ReaderUnit → List Act → Type 0
MayBeRequestedBefore (PowerOn profile) unit so_far = ⊥
MayBeRequestedBefore (Joined setups profile) unit so_far = IsUnrequested unit so_far

-- Each sale at this reader follows its approval: wherever VEND SUCCESS of an item stands among the
-- acts, it is approved by those before it. In a recording that begins in mid-session one is
-- excepted that may have been requested before the recording, and no other.
abbrev pub SalesAreApproved : Beginning → ReaderUnit → List Act → Type 0
SalesAreApproved begins unit so_far = (later before : List Act) (item : ℕ)
    → so_far ≡ later ++ (acts.Ask (Reader unit (reader.VendSuccess item)) ∷ before)
    → IsApproved unit item before ⊎ MayBeRequestedBefore begins unit before
