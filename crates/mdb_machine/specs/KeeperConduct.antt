-- What a device that keeps messages does, and the controller with it (this profile): how it holds
-- and tells them, and what counts of that.
use Rattle.std.specs.Prelude.{◌≡◌, ℕ, Bool, true, false, ◌&&◌, List, if◌then◌else◌, sum_by}
use Rattle.mdb_bus.specs.declared.act.Act.{Act}
use Rattle.mdb_machine.specs.declared.choice.Choice.{Choice}
use Rattle.mdb_machine.specs.declared.gains.Gains.{Gains}
use Rattle.mdb_machine.specs.declared.kept.Part.{Part}
use Rattle.mdb_machine.specs.Gains.{Stays, controller_gains, device_gains, no_gains}
use Rattle.mdb_machine.specs.Keeper.{AllowsFacts, Facts, KnownFacts, Tables}
use Rattle.mdb_machine.specs.Kept.{HasNews, has_reset, held, holds_acked, holds_after, holds_read, kept_of}
use Rattle.mdb_machine.specs.Steps.{StepBy}

-- What such a device does of its own, after acts that leave these facts. `Own`, `Setup`, `Asked`
-- and `M` are as in its tables.
pub record Conduct (Own Setup Asked M State : Type 0) : Type 1 where
  -- the power-on state
  pub power_on : State
  -- Whether the device holds kept messages, and the same state where it does or doesn't. So this is
  -- one part of the state, which can be set.
  pub holds : State → Bool
  pub with_holds : Bool → State → State
  pub holds_as_set : (holding : Bool) (state : State) → holds (with_holds holding state) ≡ holding
  pub same_as_set : (state : State) → with_holds (holds state) state ≡ state
  -- the controller asks a command
  pub Asks : Facts Setup Asked M → Own → State → State → Gains → Type 0
  -- the device acknowledges a command that isn't POLL
  pub Acks : Facts Setup Asked M → Own → Choice → State → State → Gains → Type 0
  -- the device tells new messages in a reply under a choice
  pub TellsNews : Facts Setup Asked M → Choice → List M → State → State → Type 0
  -- what a kept message adds to the account in a slot
  pub gain : Facts Setup Asked M → ℕ → M → ℕ
  -- whether the controller asks for money by a command, and whether a kept message tells of some
  pub asks_amount : Own → Bool
  pub tells_amount : M → Bool
  -- the state once the controller has heard a reset message
  pub heard_reset : State → State

-- what kept messages add to the account in a slot
abbrev pub worth : {Own Setup Asked M State : Type 0} → Conduct Own Setup Asked M State
    → Facts Setup Asked M → List M → ℕ → ℕ
worth conduct facts messages slot = sum_by (conduct.gain facts slot) messages

-- The device acknowledges a command, POLL or another. While it holds something, ACK is no answer to
-- POLL.
abbrev pub AckStep : {Own Setup Asked M State : Type 0} → Conduct Own Setup Asked M State
    → Facts Setup Asked M → Bool → Own → Choice → State → State → Gains → Type 0
AckStep conduct facts true command choice before after gains =
    (conduct.holds before ≡ false) × Stays before after gains
AckStep conduct facts false command choice before after gains =
    conduct.Acks facts command choice before after gains

-- The device replies with data, to POLL or to another command, which is read as plain or as
-- telling of a restart. What is new counts for the device.
pub record ReplyStep {Own Setup Asked M State : Type 0} (conduct : Conduct Own Setup Asked M State)
    (facts : Facts Setup Asked M) (poll : Bool) (parts : List (Part M)) (choice : Choice)
    (before after : State) (gains : Gains) : Type 0 where
  pub news : List M
  pub has_news : HasNews poll choice facts.past.reset_owed
      (held (holds_read choice (conduct.holds before)) facts.past.last_kept) parts news
  pub tells_news : conduct.TellsNews facts choice news (conduct.with_holds
      (holds_after (kept_of parts) (holds_read choice (conduct.holds before))) before) after
  pub gained : gains ≡ device_gains (worth conduct facts news)

-- The controller acknowledges a reply. To POLL, all kept messages count for it, new or not, and it
-- hears a reset message.
pub record VmcAckStep {Own Setup Asked M State : Type 0}
    (conduct : Conduct Own Setup Asked M State) (facts : Facts Setup Asked M) (poll : Bool)
    (parts : List (Part M)) (choice : Choice) (before after : State) (gains : Gains)
    : Type 0 where
  pub to :
      let holds = holds_acked choice (kept_of parts) (conduct.holds before) in
      let released = conduct.with_holds holds before in
      after ≡ (if poll && has_reset parts then conduct.heard_reset released else released)
  pub gained : gains ≡ (if poll
      then controller_gains (worth conduct facts (kept_of parts))
      else no_gains)

-- A step of the device and the controller by an act under a choice, after acts that leave these
-- facts.
abbrev pub KeeperStep : {Own Setup Asked M State : Type 0} → Tables Own Setup Asked M
    → Conduct Own Setup Asked M State → Facts Setup Asked M → Act → Choice → State → State → Gains
    → Type 0
KeeperStep tables conduct facts =
    StepBy tables.own (record {
      power_on = conduct.power_on;
      Asks = conduct.Asks facts;
      Acks = λ command. AckStep conduct facts (tables.is_poll command) command;
      Replies = λ command reply.
          ReplyStep conduct facts (tables.is_poll command) (tables.parts_of reply);
      VmcAcks = λ command reply.
          VmcAckStep conduct facts (tables.is_poll command) (tables.parts_of reply);
    })

-- A step where this is known of the facts: one after facts that may be. What isn't known may have
-- been anything.
pub record StepKnowing {Own Setup Asked M State : Type 0} (tables : Tables Own Setup Asked M)
    (conduct : Conduct Own Setup Asked M State) (known : KnownFacts Setup Asked M) (act : Act)
    (choice : Choice) (before after : State) (gains : Gains) : Type 0 where
  pub facts : Facts Setup Asked M
  pub allowed : AllowsFacts known (conduct.holds before) facts
  pub step : KeeperStep tables conduct facts act choice before after gains
