-- What a recording that begins in mid-session leaves open of a reader (this profile): the ways that
-- an act may go where something isn't known, listed one by one. A law says that these ways are
-- there, and no other. Acts so far stand newest first.
use Rattle.std.specs.Prelude.{◌≡◌, ◌≢◌, ◌⊎◌, ℕ, ◌≤◌, Bool, true, false, ◌&&◌, List, [], Option, Some, None, drop, length, take, if◌then◌else◌}
use Rattle.std.specs.List.{All}
use Rattle.mdb_msgs.specs.Setups.{config_known}
use Rattle.mdb_msgs.specs.declared.command.ReaderCommand.{ReaderCommand}
use Rattle.mdb_msgs.specs.declared.command.ReaderUnit.{ReaderUnit}
use Rattle.mdb_msgs.specs.declared.reply.Reply.{Reply}
use Rattle.mdb_msgs.specs.declared.setups.Setups.{Setups}
use Rattle.mdb_bus.specs.declared.act.Act.{Act}
use Rattle.mdb_bus.specs.declared.act.Act.TheVariants as acts
use Rattle.mdb_machine.specs.declared.choice.Choice.{Choice}
use Rattle.mdb_machine.specs.declared.gains.Gains.{Gains}
use Rattle.mdb_machine.specs.Gains.{device_gains, in_slots}
use Rattle.mdb_machine.specs.Kept.{MayBeKept, MayBeRead, holds_after, kept_of}
use Rattle.mdb_machine.specs.MidSession.{past_recorded}
use Rattle.mdb_machine.specs.Past.{or_else}
use Rattle.mdb_cashless.specs.declared.reader.messages.ReaderActivity.{ReaderActivity}
use Rattle.mdb_cashless.specs.declared.reader.state.ReaderState.{ReaderState}
use Rattle.mdb_cashless.specs.declared.reader.transaction.Ended.{Ended}
use Rattle.mdb_cashless.specs.declared.reader.transaction.Transaction.{Transaction}
use Rattle.mdb_cashless.specs.Reader.{all_approved, drops, is_poll, owes_reset, read, taken, value, view_heard}
use Rattle.mdb_cashless.specs.ReaderDevice as reader_device
use Rattle.mdb_cashless.specs.ReaderDevice.{all_told, effect}
use Rattle.mdb_cashless.specs.ReaderFacts.{Facts, asked_by, effect_of, ends_transactions, own_transaction, parts_by, transaction_taken_by}
use Rattle.mdb_cashless.specs.ReaderValues.{facts_of}
use Rattle.mdb_cashless.specs.Transactions.{amounts, ended_by, no_end}
use Rattle.mdb_cashless.specs.Units.{own}
use Rattle.mdb_cashless.specs.ReaderMessages.{config_in, last_said, messages_of, parts_of}

-- no act tells a kept message of the reader
abbrev pub TellsNone : ReaderUnit → List Act → Type 0
TellsNone unit so_far = All (λ act. kept_of (parts_by unit act) ≡ []) so_far

-- by no act the controller sends a transaction command to the reader
abbrev pub SendsNone : ReaderUnit → List Act → Type 0
SendsNone unit so_far = All (λ act. asked_by unit act ≡ None) so_far

-- no act tells which transaction the reader took last: it takes none, and nothing ends them
abbrev pub TakesNone : ReaderUnit → List Act → Type 0
TakesNone unit so_far =
    All (λ act. (ends_transactions unit act ≡ false) × (transaction_taken_by unit act ≡ None))
    so_far

-- The facts after acts, as the acts of the recording tell them. They are those from power-on, with
-- two changes: the config message may be known from elsewhere, and until a break, or a RESET that
-- the reader takes, no reset message is owed.
abbrev pub facts_recorded : ReaderUnit → Setups → List Act → Facts
facts_recorded unit setups so_far =
    record (facts_of unit so_far) {
      config = or_else (facts_of unit so_far).config (config_known setups unit);
      past = past_recorded (effect_of unit) (parts_by unit) so_far;
    }

-- A transaction command that a reader takes while it holds messages may be the last one again. If
-- the acts so far tell the last one, it has to be the same.
pub record MayBeAgain (unit : ReaderUnit) (so_far : List Act) (its : Option ReaderCommand)
    (holds : Bool) : Type 0 where
  pub transaction : Transaction
  pub is : own_transaction its ≡ Some transaction
  pub holds_some : holds ≡ true
  pub last : (TakesNone unit so_far → ⊥) → (facts_of unit so_far).taken ≡ Some transaction

-- It may be another, unless the reader holds messages and the acts so far tell that it is the same.
-- A command that is no transaction is never the last one again.
abbrev pub MayBeAnother : ReaderUnit → List Act → Option ReaderCommand → Bool → Type 0
MayBeAnother unit so_far its holds =
    (transaction : Transaction) → own_transaction its ≡ Some transaction → holds ≡ true
    → (TakesNone unit so_far → ⊥) → (facts_of unit so_far).taken ≢ Some transaction

-- the state once a command, if one is taken, has had its effect; a transaction and RESET drop what
-- is held
abbrev pub effected : Option ReaderCommand → ReaderState → ReaderState
effected None before = before
effected (Some command) before =
    record before {
      device = effect command before.device;
      holds = if drops command then false else before.holds;
    }

-- what it adds, if it ends a sale
abbrev pub sale : Facts → Option ReaderCommand → ReaderState → Ended
sale facts None before = no_end
sale facts (Some command) before =
    ended_by (reader_device.has_approved before.device) command (value facts.config facts.amount)

-- The reader takes a command, or none: as the last transaction again, which has no effect, or as
-- another.
abbrev pub Takes : ReaderUnit → List Act → Facts → Option ReaderCommand → ReaderState → ReaderState
    → Ended → Type 0
Takes unit so_far facts its before after sold =
    (MayBeAgain unit so_far its before.holds × (after ≡ before) × (sold ≡ no_end))
    ⊎ (MayBeAnother unit so_far its before.holds × (after ≡ effected its before)
    × (sold ≡ sale facts its before))

-- The first `count` of a reply's kept messages are those that the reader holds. If it holds some,
-- `count` is at least 1, and if the acts so far tell a kept message, they are the last kept list. A
-- reply to another command than POLL may have no kept message instead. If the reader holds none,
-- `count` is 0.
abbrev pub AreHeld : ReaderUnit → List Act → Bool → Bool → List ReaderActivity → ℕ → Type 0
AreHeld unit so_far poll true kept count =
    ((1 ≤ count) × (count ≤ length kept)
    × ((TellsNone unit so_far → ⊥) → take count kept ≡ (facts_of unit so_far).past.last_kept))
    ⊎ ((poll ≡ false) × (kept ≡ []) × (count ≡ 0))
AreHeld unit so_far poll false kept count = count ≡ 0

-- A way of a reply. First the reader takes the command, if it does. Then the first of the reply's
-- kept messages are held, and the others are new: each meets its condition and has its effect, in
-- order, and counts. The last transaction is the one that is taken. If none is, it is the one
-- before (`last`), which may be any if the acts so far don't tell it.
pub record ReplyWay (unit : ReaderUnit) (so_far : List Act) (facts : Facts)
    (command : ReaderCommand) (reply : Reply) (choice : Choice) (before after : ReaderState)
    (gains : Gains) : Type 0 where
  pub middle : ReaderState
  pub sold : Ended
  pub count : ℕ
  pub last : Option Transaction
  pub may_be_read : MayBeRead choice (parts_of reply)
  pub takes : Takes unit so_far facts (taken command reply) (read choice before) middle sold
  pub held : AreHeld unit so_far (is_poll command) middle.holds (kept_of (parts_of reply)) count
  pub reset : MayBeKept (owes_reset facts (taken command reply)) (parts_of reply)
  pub known : (TakesNone unit so_far → ⊥) → last ≡ facts.taken
  pub told : all_told (or_else (own_transaction (taken command reply)) last)
      (drop count (kept_of (parts_of reply))) middle.device ≡ Some after.device
  pub view : after.view ≡ before.view
  pub holds : after.holds ≡ holds_after (kept_of (parts_of reply)) middle.holds
  pub gained : gains ≡ device_gains (in_slots
      (amounts (all_approved (or_else (last_said config_in (messages_of reply)) facts.config)
      (drop count (kept_of (parts_of reply)))) sold))

-- a way of an ACK: it is none to POLL while the reader holds messages
pub record AckWay (unit : ReaderUnit) (so_far : List Act) (facts : Facts)
    (command : ReaderCommand) (choice : Choice) (before after : ReaderState) (gains : Gains)
    : Type 0 where
  pub middle : ReaderState
  pub sold : Ended
  pub poll : (is_poll command && before.holds) ≡ false
  pub takes : Takes unit so_far facts (Some command) before middle sold
  pub to : after ≡ record middle { view = view_heard choice command before.view }
  pub gained : gains ≡ device_gains (in_slots (amounts 0 sold))

-- What isn't known is irrelevant for an act. An ask is of no transaction command, or the acts so
-- far send one. An ACK or a reply is of another device; `AckWay` and `ReplyWay` are for those of
-- the reader. Any other act is none of these.
abbrev pub IsSettled : ReaderUnit → List Act → Act → Type 0
IsSettled unit so_far (acts.Ask command) =
    (asked_by unit (acts.Ask command) ≡ None) ⊎ (SendsNone unit so_far → ⊥)
IsSettled unit so_far (acts.Ack command) = own unit command ≡ None
IsSettled unit so_far (acts.Reply command reply) = own unit command ≡ None
IsSettled unit so_far act = Unit {0}
