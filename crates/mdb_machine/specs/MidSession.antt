-- What a recording that begins in mid-session leaves open of a device that keeps messages (this
-- profile): the ways that an act may go where something isn't known, listed one by one. The laws of
-- each device say that these ways are there, and no other. Acts so far stand newest first.
use Rattle.std.specs.Prelude.{◌≡◌, ◌⊎◌, ℕ, ◌≤◌, false, ◌&&◌, List, [], None, drop, length}
use Rattle.std.specs.List.{All, list_any}
use Rattle.mdb_msgs.specs.declared.command.Command.{Command}
use Rattle.mdb_msgs.specs.declared.setups.Setups.{Setups}
use Rattle.mdb_bus.specs.declared.act.Act.{Act}
use Rattle.mdb_bus.specs.declared.act.Act.TheVariants as acts
use Rattle.mdb_bus.specs.declared.scope.Beginning.TheVariants.{Joined}
use Rattle.mdb_bus.specs.declared.scope.Profile.{Profile}
use Rattle.mdb_machine.specs.declared.choice.Choice.{Choice}
use Rattle.mdb_machine.specs.declared.choice.Choice.TheVariants.{Plain}
use Rattle.mdb_machine.specs.declared.gains.Gains.{Gains}
use Rattle.mdb_machine.specs.declared.kept.Part.{Part}
use Rattle.mdb_machine.specs.declared.past.Effect.{Effect}
use Rattle.mdb_machine.specs.Enabled.{known_enabled}
use Rattle.mdb_machine.specs.Gains.{device_gains}
use Rattle.mdb_machine.specs.Keeper.{Facts, Tables, asked_by, effect_of, parts_by, setup_by}
use Rattle.mdb_machine.specs.KeeperConduct.{Conduct, worth}
use Rattle.mdb_machine.specs.Kept.{MayBeKept, holds_read, kept_of}
use Rattle.mdb_machine.specs.Past.{PastFacts, last_told, or_else, past_of, powers_on}

-- no act tells a kept message of the device
abbrev pub TellsNone : {Own Setup Asked M : Type 0} → Tables Own Setup Asked M → List Act
    → Type 0
TellsNone tables so_far = All (λ act. kept_of (parts_by tables act) ≡ []) so_far

-- by no act the controller asks what counts once it is asked
abbrev pub AsksNone : {Own Setup Asked M : Type 0} → Tables Own Setup Asked M → List Act
    → Type 0
AsksNone tables so_far = All (λ act. asked_by tables act ≡ None) so_far

-- What counts of acts, as the acts of the recording tell it. It is as from power-on, with one
-- change: until a break, or a RESET that the device takes, no reset message is owed.
abbrev pub past_recorded : {M : Type 0} → (Command → Effect) → (Act → List (Part M)) → List Act
    → PastFacts M
past_recorded effect_of parts_by so_far =
    let past = past_of effect_of parts_by so_far in
    record {
      reset_owed = past.reset_owed && list_any (powers_on effect_of) so_far;
      last_kept = past.last_kept;
    }

-- The facts after acts, as the acts of the recording tell them; the setup table may be known from
-- elsewhere, and all types are enabled until an act ends this.
abbrev pub facts_recorded : {Own Setup Asked M : Type 0} → Tables Own Setup Asked M → Setups
    → Profile → List Act → Facts Setup Asked M
facts_recorded tables setups profile so_far =
    record {
      setup = or_else (last_told (setup_by tables) so_far) (tables.setup_known setups);
      last_asked = last_told (asked_by tables) so_far;
      enabled = known_enabled (Joined setups profile) (effect_of tables) so_far;
      past = past_recorded (effect_of tables) (parts_by tables) so_far;
    }

-- A device replies while it holds messages that were told before the recording. The first `count`
-- of the reply's kept messages are those that it holds, and there is at least one of them. The
-- others are new: each meets its condition and has its effect, in order, and counts.
pub record TellsHeldFirst {Own Setup Asked M State : Type 0}
    (conduct : Conduct Own Setup Asked M State) (facts : Facts Setup Asked M)
    (parts : List (Part M)) (count : ℕ) (before after : State) (gains : Gains) : Type 0 where
  pub some : 1 ≤ count
  pub told : count ≤ length (kept_of parts)
  pub reset : MayBeKept facts.past.reset_owed parts
  pub news : conduct.TellsNews facts Plain (drop count (kept_of parts)) before after
  pub gained : gains ≡ device_gains (worth conduct facts (drop count (kept_of parts)))

-- What isn't known is irrelevant for an act. An ask is of what doesn't count once it is asked, or
-- the acts so far ask such a thing. A reply is of another device, or of a device that holds nothing
-- once the reply is read, or the acts so far tell a kept message. Any other act is settled.
abbrev pub IsSettled : {Own Setup Asked M State : Type 0} → Tables Own Setup Asked M
    → Conduct Own Setup Asked M State → List Act → Act → Choice → State → Type 0
IsSettled tables conduct so_far (acts.Ask command) choice before =
    (asked_by tables (acts.Ask command) ≡ None) ⊎ (AsksNone tables so_far → ⊥)
IsSettled tables conduct so_far (acts.Reply command reply) choice before =
    (tables.own command ≡ None) ⊎ (holds_read choice (conduct.holds before) ≡ false)
    ⊎ (TellsNone tables so_far → ⊥)
IsSettled tables conduct so_far act choice before = Unit {0}
