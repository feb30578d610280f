-- A cashless reader and the controller's dealings with it (MDB/ICP 4.3, cashless device; states and
-- sums, this profile). The accounts by slot are what was approved, and what was sold (`amounts`).
use Rattle.std.specs.Prelude.{◌≡◌, ℕ, ◌+◌, ◌*◌, Bool, true, false, ◌&&◌, ◌||◌, List, [], ◌∷◌, Option, Some, None, if◌then◌else◌, sum_by}
use Rattle.mdb_msgs.specs.declared.command.ReaderCommand.{ReaderCommand}
use Rattle.mdb_msgs.specs.declared.command.ReaderCommand.TheVariants as reader
use Rattle.mdb_msgs.specs.declared.command.ReaderUnit.{ReaderUnit}
use Rattle.mdb_msgs.specs.declared.reply.Reply.{Reply}
use Rattle.mdb_msgs.specs.declared.reply.reader.ReaderMsg.{ReaderMsg}
use Rattle.mdb_msgs.specs.declared.reply.reader.ReaderMsg.TheVariants as messages
use Rattle.mdb_bus.specs.declared.act.Act.{Act}
use Rattle.mdb_bus.specs.declared.scope.Beginning.{Beginning}
use Rattle.mdb_machine.specs.declared.choice.Choice.{Choice}
use Rattle.mdb_machine.specs.declared.choice.Choice.TheVariants.{Lost, Restart}
use Rattle.mdb_machine.specs.declared.gains.Gains.{Gains}
use Rattle.mdb_machine.specs.Gains.{controller_gains, device_gains, in_slots}
use Rattle.mdb_machine.specs.Kept.{HasNews, held, holds_acked, holds_after, kept_of}
use Rattle.mdb_machine.specs.Machine.{Machine, StartsIn}
use Rattle.mdb_machine.specs.Past.{or_else, resets, tells_out_of_sequence}
use Rattle.mdb_machine.specs.Steps.{StepBy}
use Rattle.mdb_cashless.specs.declared.reader.device.DeviceState.TheVariants as device
use Rattle.mdb_msgs.specs.declared.setups.ReaderConfig.{ReaderConfig}
use Rattle.mdb_cashless.specs.declared.reader.messages.ReaderActivity.{ReaderActivity}
use Rattle.mdb_cashless.specs.declared.reader.messages.ReaderActivity.TheVariants.{VendApproved}
use Rattle.mdb_cashless.specs.declared.reader.state.ReaderState.{ReaderState}
use Rattle.mdb_cashless.specs.declared.reader.view.View.{View}
use Rattle.mdb_cashless.specs.declared.reader.view.View.TheVariants as view
use Rattle.mdb_cashless.specs.declared.reader.transaction.Ended.{Ended}
use Rattle.mdb_cashless.specs.declared.reader.transaction.Transaction.{Transaction}
use Rattle.mdb_cashless.specs.ReaderDevice as reader_device
use Rattle.mdb_cashless.specs.ReaderDevice.{all_told, effect}
use Rattle.mdb_cashless.specs.ReaderFacts.{AllowsFacts, Facts, KnownFacts, effect_of_own, known_of, own_transaction}
use Rattle.mdb_cashless.specs.ReaderMessages.{config_in, last_said, messages_of, parts_of}
use Rattle.mdb_cashless.specs.ReaderView as reader_view
use Rattle.mdb_cashless.specs.ReaderView.{all_heard, awaits, heard, sent}
use Rattle.mdb_cashless.specs.Transactions.{amounts, ended_by, is_again, no_end, transaction_of}
use Rattle.mdb_cashless.specs.Units.{own}

-- the power-on state: the reader is Inactive and holds nothing, and the controller knows of no
-- session
abbrev pub power_on : ReaderState
power_on = record { device = device.Inactive; view = view.NoSession; holds = false }

-- the value of an amount by a config message: its scale factor times the amount; 0 where there is
-- none yet
abbrev pub value : Option ReaderConfig → ℕ → ℕ
value None amount = 0
value (Some config) amount = config.scale * amount

-- what a new kept message adds to the reader's approved: the value of a message 05
abbrev pub approved : Option ReaderConfig → ReaderActivity → ℕ
approved config (VendApproved amount) = value config amount
approved config message = 0

abbrev pub all_approved : Option ReaderConfig → List ReaderActivity → ℕ
all_approved config news = sum_by (approved config) news

-- what a heard message adds to the controller's approved: the value of a message 05 that makes its
-- view Approved
abbrev pub approved_to : Option ReaderConfig → View → ReaderMsg → ℕ
approved_to config before (messages.VendApproved amount) =
    if awaits before then value config amount else 0
approved_to config before message = 0

abbrev pub all_approved_to : Option ReaderConfig → View → List ReaderMsg → ℕ
all_approved_to config before [] = 0
all_approved_to config before (message ∷ messages) =
    approved_to config before message + all_approved_to config (heard message before) messages

-- whether a command is POLL
abbrev pub is_poll : ReaderCommand → Bool
is_poll reader.Poll = true
is_poll command = false

-- whether a command that the reader takes ends what it holds: RESET and the transaction commands
abbrev pub drops : ReaderCommand → Bool
drops reader.Reset = true
drops command = elim (transaction_of command) [ Some transaction ↦ true | None ↦ false ]

-- whether a command is the last transaction that the reader took, while it still holds what it told
-- after that: the controller may not have heard the answer, and so tells it again
abbrev pub is_repeated : Facts → ReaderCommand → Bool → Bool
is_repeated facts command holds =
    holds && elim (transaction_of command) [
      | Some transaction ↦ is_again facts.taken transaction
      | None ↦ false
    ]

-- The reader takes a command. A transaction command that is repeated while it holds has no effect.
-- Any other command has its effect; a transaction command and RESET drop what was held.
abbrev pub take : Facts → ReaderCommand → ReaderState → ReaderState
take facts command before =
    if is_repeated facts command before.holds then before
    else record {
      device = effect command before.device;
      view = before.view;
      holds = if drops command then false else before.holds;
    }

-- what that adds to the reader's accounts, if it ends a sale: in Approved one of the last amount of
-- 05 may end
abbrev pub sold : Facts → ReaderCommand → ReaderState → Ended
sold facts command before =
    if is_repeated facts command before.holds then no_end
    else ended_by (reader_device.has_approved before.device) command
    (value facts.config facts.amount)

-- The view after a command that the controller sends; None where it may not send it. RESET ends
-- the session in its view, taken or not; the commands that are neither RESET nor a transaction
-- leave the view.
abbrev pub asked : Facts → ReaderCommand → View → Option View
asked facts reader.Reset before = Some view.NoSession
asked facts command before =
    elim (transaction_of command) [
      | Some transaction ↦ sent facts.asked transaction before
      | None ↦ Some before
    ]

-- what that adds to the controller's accounts, if it ends a sale: in the view Approved one of the
-- last amount of 05 may end
abbrev pub sold_to : Facts → ReaderCommand → View → Ended
sold_to facts command before =
    ended_by (reader_view.has_approved before) command (value facts.config facts.amount)

-- The controller asks. Where it may not send the command, there is no step.
pub record AskStep (facts : Facts) (command : ReaderCommand) (before after : ReaderState)
    (gains : Gains) : Type 0 where
  pub view : asked facts command before.view ≡ Some after.view
  pub device : after.device ≡ before.device
  pub holds : after.holds ≡ before.holds
  pub gained : gains ≡ controller_gains (in_slots (amounts 0 (sold_to facts command before.view)))

-- the view after hearing that the reader took a command: that tells something of a transaction
-- command
abbrev pub view_taken : ReaderCommand → View → View
view_taken command before =
    elim (transaction_of command) [
      | Some transaction ↦ reader_view.taken before
      | None ↦ before
    ]

-- the view after an answer that takes a command, which the controller heard or didn't hear
abbrev pub view_heard : Choice → ReaderCommand → View → View
view_heard Lost command before = before
view_heard choice command before = view_taken command before

-- The reader acknowledges, and by that takes the command; the controller may hear that. While the
-- reader holds something, ACK is no answer to POLL.
pub record AckStep (facts : Facts) (command : ReaderCommand) (choice : Choice)
    (before after : ReaderState) (gains : Gains) : Type 0 where
  pub poll : (is_poll command && before.holds) ≡ false
  pub to : after ≡ record (take facts command before) {
    view = view_heard choice command before.view;
  }
  pub gained : gains ≡ device_gains (in_slots (amounts 0 (sold facts command before)))

-- the state of the reader once a reply is read: after a restart it is in its power-on state, and
-- holds nothing; the controller doesn't know of that yet
abbrev pub read : Choice → ReaderState → ReaderState
read Restart before = record before { device = device.Inactive; holds = false }
read choice before = before

-- the command that the reader takes by a reply: none where the reply says that it came out of
-- sequence
abbrev pub taken : ReaderCommand → Reply → Option ReaderCommand
taken command reply = if tells_out_of_sequence reply then None else Some command

-- the state after taking it, if it is taken, and what that adds if it ends a sale
abbrev pub take_any : Facts → Option ReaderCommand → ReaderState → ReaderState
take_any facts None before = before
take_any facts (Some command) before = take facts command before

abbrev pub sold_any : Facts → Option ReaderCommand → ReaderState → Ended
sold_any facts None before = no_end
sold_any facts (Some command) before = sold facts command before

-- the state before the messages of a reply
abbrev pub before_messages : Facts → ReaderCommand → Reply → Choice → ReaderState → ReaderState
before_messages facts command reply choice before =
    take_any facts (taken command reply) (read choice before)

-- whether a reset message is owed where a command is taken, if one is: after RESET it is (which is
-- irrelevant, since no kept message stands in an answer to RESET)
abbrev pub owes_reset : Facts → Option ReaderCommand → Bool
owes_reset facts command = resets (effect_of_own command) || facts.past.reset_owed

-- the last transaction that the reader took where a command is taken, if one is (after RESET there
-- is none, but the reader is Inactive then, and no message asks)
abbrev pub last_transaction : Facts → Option ReaderCommand → Option Transaction
last_transaction facts command = or_else (own_transaction command) facts.taken

-- The reader replies with data, which is read as plain or as telling of a restart. If it takes
-- the command by that, the command has its effect first. Then come the messages: after those that
-- it holds stand the new ones, each of which has its effect. They are valued by the reply's own
-- config message, if it has one; a sale is not. A transaction command that is taken is already the
-- last one, and after RESET a reset message is owed.
pub record ReplyStep (facts : Facts) (command : ReaderCommand) (reply : Reply)
    (choice : Choice) (before after : ReaderState) (gains : Gains) : Type 0 where
  pub news : List ReaderActivity
  pub has_news : HasNews (is_poll command) choice (owes_reset facts (taken command reply))
      (held (before_messages facts command reply choice before).holds facts.past.last_kept)
      (parts_of reply) news
  pub told : all_told (last_transaction facts (taken command reply)) news
      (before_messages facts command reply choice before).device ≡ Some after.device
  pub view : after.view ≡ before.view
  pub holds : after.holds ≡ holds_after (kept_of (parts_of reply))
      (before_messages facts command reply choice before).holds
  pub gained : gains ≡ device_gains (in_slots
      (amounts (all_approved (or_else (last_said config_in (messages_of reply)) facts.config) news)
      (sold_any facts (taken command reply) (read choice before))))

-- the view after hearing that the reply's command was taken, if it was
abbrev pub view_answered : Option ReaderCommand → View → View
view_answered None before = before
view_answered (Some command) before = view_taken command before

-- The controller acknowledges a reply: it has heard that the reader took the command, and then the
-- messages in order. The reader may hear that.
pub record VmcAckStep (facts : Facts) (command : ReaderCommand) (reply : Reply) (choice : Choice)
    (before after : ReaderState) (gains : Gains) : Type 0 where
  pub to : after ≡ record {
    device = before.device;
    view = all_heard (messages_of reply) (view_answered (taken command reply) before.view);
    holds = holds_acked choice (kept_of (parts_of reply)) before.holds;
  }
  pub gained : gains ≡ controller_gains (in_slots
      (amounts (all_approved_to facts.config (view_answered (taken command reply) before.view)
      (messages_of reply)) no_end))

-- A step of a reader and the controller by an act under a choice, after acts that leave these
-- facts.
abbrev pub ReaderStep : ReaderUnit → Facts → Act → Choice → ReaderState → ReaderState → Gains
    → Type 0
ReaderStep unit facts =
    StepBy (own unit) (record {
      power_on = power_on;
      Asks = AskStep facts;
      Acks = AckStep facts;
      Replies = ReplyStep facts;
      VmcAcks = VmcAckStep facts;
    })

-- A step where this is known of the facts: one after facts that may be. What isn't known may have
-- been anything.
pub record StepKnowing (unit : ReaderUnit) (known : KnownFacts) (act : Act) (choice : Choice)
    (before after : ReaderState) (gains : Gains) : Type 0 where
  pub facts : Facts
  pub allowed : AllowsFacts known before.holds facts
  pub step : ReaderStep unit facts act choice before after gains

-- The machine of a reader in a recording that begins so.
abbrev pub machine : ReaderUnit → Beginning → Machine ReaderState
machine unit begins = record {
  Starts = StartsIn power_on begins;
  Step = λ acts. StepKnowing unit (known_of begins unit acts);
}
