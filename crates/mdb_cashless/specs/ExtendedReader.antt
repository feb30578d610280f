-- A cashless reader and the controller's dealings with it by the extended profile (this profile):
-- of a session it follows what money hangs on. An approval needs a request, one that may not have
-- been heard may be told again, and a sale needs an approval that the controller acknowledged. All
-- else may come at any time. The accounts by slot are what was approved, and what was sold.
use Rattle.std.specs.Prelude.{◌≡◌, ◌≢◌, ◌⊎◌, ◌==◌, ℕ, Bool, true, false, not, ◌&&◌, List, [], ◌∷◌, Option, Some, None, if◌then◌else◌, drop, length, nat_eq, unwrap_or}
use Rattle.std.specs.List.{starts_with}
use Rattle.mdb_msgs.specs.declared.command.ReaderCommand.{ReaderCommand}
use Rattle.mdb_msgs.specs.declared.command.ReaderCommand.TheVariants as reader
use Rattle.mdb_msgs.specs.declared.command.ReaderUnit.{ReaderUnit}
use Rattle.mdb_msgs.specs.declared.reply.Reply.{Reply}
use Rattle.mdb_msgs.specs.declared.reply.reader.ReaderMsg.{ReaderMsg}
use Rattle.mdb_msgs.specs.declared.reply.reader.ReaderMsg.TheVariants as messages
use Rattle.mdb_msgs.specs.declared.setups.ReaderConfig.{ReaderConfig}
use Rattle.mdb_bus.specs.declared.act.Act.{Act}
use Rattle.mdb_bus.specs.declared.scope.Beginning.{Beginning}
use Rattle.mdb_machine.specs.declared.choice.Choice.{Choice}
use Rattle.mdb_machine.specs.declared.choice.Choice.TheVariants.{Again, Lost, Restart}
use Rattle.mdb_machine.specs.declared.gains.Gains.{Gains}
use Rattle.mdb_machine.specs.Gains.{controller_gains, device_gains, in_slots}
use Rattle.mdb_machine.specs.Kept.{MayBeRead}
use Rattle.mdb_machine.specs.Known.{Allows}
use Rattle.mdb_machine.specs.Machine.{Machine, StartsIn}
use Rattle.mdb_machine.specs.Past.{or_else, tells_out_of_sequence}
use Rattle.mdb_machine.specs.Steps.{StepBy}
use Rattle.mdb_cashless.specs.declared.approvals.sale.Sale.{Sale}
use Rattle.mdb_cashless.specs.declared.approvals.sale.Sale.TheVariants.{Unknown, Unawaited, Nothing, Awaited, Approved, Sold}
use Rattle.mdb_cashless.specs.declared.approvals.state.ApprovalState.{ApprovalState}
use Rattle.mdb_cashless.specs.ExtendedFacts.{Facts, approvals_in, facts_of}
use Rattle.mdb_cashless.specs.Reader.{value}
use Rattle.mdb_cashless.specs.ReaderMessages.{config_in, last_said, messages_of, parts_of}
use Rattle.mdb_cashless.specs.Units.{own}

-- the power-on state: nothing was asked, nothing is approved, and nothing may be told again
abbrev pub power_on : ApprovalState
power_on = record { asked = false; approved = false; again = false }

-- the value of the last message 05; 0 where there was none
abbrev pub last_value : Facts → ℕ
last_value facts = value facts.config (unwrap_or facts.amount 0)

-- A sale may have been requested before the recording. It is worth the last message 05.
abbrev pub IsEarlier : Facts → ℕ → Type 0
IsEarlier facts worth = (facts.earlier ≡ true) × (worth ≡ last_value facts)

-- The controller may ask VEND SUCCESS of an item, and this adds so much to its sold: where the sale
-- is approved its amount, and where it is sold with the same block nothing. Where that isn't known
-- it may be both.
abbrev pub MaySell : Facts → ℕ → Sale → ℕ → Type 0
MaySell facts item (Approved amount) worth = worth ≡ value facts.config amount
MaySell facts item (Sold last) worth =
    ((last ≡ item) × (worth ≡ 0)) ⊎ ((last ≢ item) × IsEarlier facts worth)
MaySell facts item Unknown worth = (worth ≡ 0) ⊎ IsEarlier facts worth
MaySell facts item Unawaited worth = (worth ≡ 0) ⊎ IsEarlier facts worth
MaySell facts item sale worth = IsEarlier facts worth

-- every other command it may ask always
abbrev pub MayAsk : Facts → ReaderCommand → ℕ → Type 0
MayAsk facts (reader.VendSuccess item) worth = MaySell facts item facts.sale worth
MayAsk facts command worth = worth ≡ 0

-- A request that is asked may be approved, whatever its answer.
abbrev pub asked : ReaderCommand → ApprovalState → ApprovalState
asked (reader.VendRequest price item) before = record before { asked = true }
asked command before = before

-- the controller asks
abbrev pub AskStep : Facts → ReaderCommand → ApprovalState → ApprovalState → Gains → Type 0
AskStep facts command before after gains = (worth : ℕ) × MayAsk facts command worth
    × (after ≡ asked command before) × (gains ≡ controller_gains (in_slots (0 ∷ worth ∷ [])))

-- what a command makes of the reader that takes it: VEND SUCCESS uses the approval
abbrev pub effect : ReaderCommand → ApprovalState → ApprovalState
effect reader.Reset before = power_on
effect (reader.VendSuccess item) before = record before { approved = false }
effect command before = before

-- what that adds to the reader's sold, where an approval stands
abbrev pub sold : Facts → ReaderCommand → ApprovalState → ℕ
sold facts (reader.VendSuccess item) before = if before.approved then last_value facts else 0
sold facts command before = 0

-- the state once the reader acknowledges a command: after ACK to POLL it tells nothing again
abbrev pub acked : ReaderCommand → ApprovalState → ApprovalState
acked reader.Poll before = record before { again = false }
acked command before = effect command before

-- the reader acknowledges, and by that takes the command
abbrev pub AckStep : Facts → ReaderCommand → ApprovalState → ApprovalState → Gains → Type 0
AckStep facts command before after gains = (after ≡ acked command before)
    × (gains ≡ device_gains (in_slots (0 ∷ sold facts command before ∷ [])))

-- the state once a reply is read: after a restart it is the power-on state
abbrev pub read : Choice → ApprovalState → ApprovalState
read Restart before = power_on
read choice before = before

-- The state before the messages of a reply that is read so, and what the reader adds to its sold: a
-- command that it takes by the reply has its effect first.
abbrev pub before_messages : ReaderCommand → Reply → ApprovalState → ApprovalState
before_messages command reply start =
    if tells_out_of_sequence reply then start else effect command start

abbrev pub sold_by : Facts → ReaderCommand → Reply → ApprovalState → ℕ
sold_by facts command reply start =
    if tells_out_of_sequence reply then 0 else sold facts command start

-- Messages 05 may be told again: they begin with those of the last reply that had some.
abbrev pub may_be_again : ApprovalState → List ℕ → List ℕ → Bool
may_be_again before last told = before.again && starts_with nat_eq told last

-- One message 05 that may be told again may be new, too, where a request may be approved.
abbrev pub may_be_either : ApprovalState → List ℕ → List ℕ → Bool
may_be_either before last told = (length last == 1)
    && ((length told == 1) && (before.asked && may_be_again before last told))

-- What of a reply's messages 05 is new under a choice: all that comes after those told again, and
-- all where none may be. Where the one may be either, that is chosen, and nowhere else.
abbrev pub news : Choice → ApprovalState → List ℕ → List ℕ → Option (List ℕ)
news Again before last told = if may_be_either before last told then Some [] else None
news choice before last told =
    if may_be_again before last told && not (may_be_either before last told)
    then Some (drop (length last) told) else Some told

-- The state after new messages 05. One needs a request that may be approved, and a second would
-- need another.
abbrev pub approve : List ℕ → ApprovalState → Option ApprovalState
approve [] before = Some before
approve (amount ∷ []) before =
    if before.asked then Some (record { asked = false; approved = true; again = true }) else None
approve new before = None

-- what a new message 05 adds to the reader's approved: its value by the reply's own config message,
-- if it has one
abbrev pub worth : Facts → Reply → List ℕ → ℕ
worth facts reply [] = 0
worth facts reply (amount ∷ new) =
    value (or_else (last_said config_in (messages_of reply)) facts.config) amount

-- As telling of a restart a reply can be read as by the base profile, and else each can be read.
abbrev pub CanBeRead : Choice → Reply → Type 0
CanBeRead Restart reply = MayBeRead Restart (parts_of reply)
CanBeRead choice reply = Unit {0}

-- The reader replies with data, which is read as plain, as telling of a restart, or as telling its
-- approval again. `last` are the messages 05 of the last reply that had some; where these aren't
-- known, they may be any.
pub record ReplyStep (facts : Facts) (command : ReaderCommand) (reply : Reply) (choice : Choice)
    (before after : ApprovalState) (gains : Gains) : Type 0 where
  pub last : List ℕ
  pub may_be_last : Allows facts.approvals last
  pub may_be_read : CanBeRead choice reply
  pub new : List ℕ
  pub is_new : news choice (before_messages command reply (read choice before)) last
      (approvals_in (messages_of reply)) ≡ Some new
  pub to : approve new (before_messages command reply (read choice before)) ≡ Some after
  pub gained : gains ≡ device_gains (in_slots
      (worth facts reply new ∷ sold_by facts command reply (read choice before) ∷ []))

-- what messages that the controller acknowledges add to its approved: a 05 that it awaits
abbrev pub approved_to : Option ReaderConfig → Sale → List ReaderMsg → ℕ
approved_to config Awaited (messages.VendApproved amount ∷ told) = value config amount
approved_to config Awaited (messages.JustReset ∷ told) = 0
approved_to config Awaited (messages.VendDenied ∷ told) = 0
approved_to config Awaited (message ∷ told) = approved_to config Awaited told
approved_to config sale told = 0

-- the sale that counts for an ACK: one that isn't known may be awaited, or not
abbrev pub IsSale : Sale → Sale → Type 0
IsSale Unknown sale = (sale ≡ Nothing) ⊎ (sale ≡ Awaited)
IsSale known sale = sale ≡ known

-- the state once the reader hears the ACK of its messages 05, if there are some, or doesn't hear it
abbrev pub heard : Choice → List ℕ → ApprovalState → ApprovalState
heard Lost told before = before
heard choice told before = if length told == 0 then before else record before { again = false }

-- the controller acknowledges a reply
abbrev pub VmcAckStep : Facts → Reply → Choice → ApprovalState → ApprovalState → Gains → Type 0
VmcAckStep facts reply choice before after gains = (sale : Sale) × IsSale facts.sale sale
    × (after ≡ heard choice (approvals_in (messages_of reply)) before)
    × (gains ≡ controller_gains (in_slots
    (approved_to facts.config sale (messages_of reply) ∷ 0 ∷ [])))

-- a step of a reader and the controller by an act under a choice, where this is known
abbrev pub ReaderStep : ReaderUnit → Facts → Act → Choice → ApprovalState → ApprovalState → Gains
    → Type 0
ReaderStep unit facts =
    StepBy (own unit) (record {
      power_on = power_on;
      Asks = AskStep facts;
      Acks = λ command choice. AckStep facts command;
      Replies = ReplyStep facts;
      VmcAcks = λ command. VmcAckStep facts;
    })

-- the machine of a reader in a recording that begins so
abbrev pub machine : ReaderUnit → Beginning → Machine ApprovalState
machine unit begins = record {
  Starts = StartsIn power_on begins;
  Step = λ acts. ReaderStep unit (facts_of begins unit acts);
}
