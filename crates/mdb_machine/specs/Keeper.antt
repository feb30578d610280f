-- A device that keeps messages, and what is known of it after a list of acts, the newest first
-- (this profile). Changer and validator are such devices.
use Rattle.std.specs.Prelude.{◌≡◌, ℕ, Bool, List, [], Option, Some, None, option_and_then, option_map}
use Rattle.std.specs.Option.{option_map_or}
use Rattle.mdb_msgs.specs.declared.command.Command.{Command}
use Rattle.mdb_msgs.specs.declared.reply.Reply.{Reply}
use Rattle.mdb_msgs.specs.declared.setups.Setups.{Setups}
use Rattle.mdb_bus.specs.declared.act.Act.{Act}
use Rattle.mdb_bus.specs.declared.act.Act.TheVariants as acts
use Rattle.mdb_bus.specs.declared.scope.Beginning.{Beginning}
use Rattle.mdb_bus.specs.declared.scope.Profile.{Profile}
use Rattle.mdb_bus.specs.Scopes.{profile_of}
use Rattle.mdb_machine.specs.declared.kept.Part.{Part}
use Rattle.mdb_machine.specs.declared.past.Effect.{Effect}
use Rattle.mdb_machine.specs.Enabled.{known_enabled}
use Rattle.mdb_machine.specs.Known.{Allows, Known, known_before, known_by}
use Rattle.mdb_machine.specs.Past.{AllowsPast, KnownPast, PastFacts, effect_taken, known_past, last_told, or_else}

-- The tables of such a device: `Own` are its commands, `Setup` its setup tables, `Asked` is what
-- counts of a command once the controller asks it, and `M` what a kept message says.
pub record Tables (Own Setup Asked M : Type 0) : Type 0 where
  -- the command of the device that a command is, if it is one
  pub own : Command → Option Own
  -- whether a command is POLL
  pub is_poll : Own → Bool
  -- what a command is to the device that takes it
  pub effect_of : Own → Effect
  -- what counts of a command once it is asked, if something does
  pub asked_of : Own → Option Asked
  -- the setup table of a reply
  pub setup_of : Reply → Option Setup
  -- its setup table that is known from elsewhere
  pub setup_known : Setups → Option Setup
  -- the decimal places that a setup table tells
  pub decimals_of : Setup → ℕ
  -- the messages of a reply
  pub parts_of : Reply → List (Part M)

-- what a command is to the device that takes it; one of another device is nothing to it
abbrev pub effect_of : {Own Setup Asked M : Type 0} → Tables Own Setup Asked M → Command → Effect
effect_of tables command = effect_taken tables.effect_of (tables.own command)

-- what counts of the command that the controller asks by an act
abbrev pub asked_by : {Own Setup Asked M : Type 0} → Tables Own Setup Asked M → Act → Option Asked
asked_by tables (acts.Ask command) = option_and_then tables.asked_of (tables.own command)
asked_by tables _ = None

-- the reply of the device that an act is, heard or not
abbrev pub reply_by : {Own Setup Asked M : Type 0} → Tables Own Setup Asked M → Act → Option Reply
reply_by tables (acts.Reply command reply) = option_map (λ own. reply) (tables.own command)
reply_by tables _ = None

-- its setup table
abbrev pub setup_by : {Own Setup Asked M : Type 0} → Tables Own Setup Asked M → Act → Option Setup
setup_by tables act = option_and_then tables.setup_of (reply_by tables act)

-- its messages
abbrev pub parts_by : {Own Setup Asked M : Type 0} → Tables Own Setup Asked M → Act
    → List (Part M)
parts_by tables act = option_map_or tables.parts_of (reply_by tables act) []

-- The facts. Breaks and RESETs leave the setup table, and what was asked.
pub record Facts (Setup Asked M : Type 0) : Type 0 where
  -- the last setup table
  pub setup : Option Setup
  -- what was asked last of what counts
  pub last_asked : Option Asked
  -- whether a type is enabled
  pub enabled : ℕ → Bool
  -- the reset message, and the last kept list
  pub past : PastFacts M

-- What is known of the facts, where a recording may begin in mid-session.
pub record KnownFacts (Setup Asked M : Type 0) : Type 0 where
  pub setup : Option Setup
  pub last_asked : Known (Option Asked)
  pub profile : Profile
  pub enabled : ℕ → Bool
  pub past : KnownPast M

-- what is known of them after acts: the setup table may be known from elsewhere
abbrev pub known_of : {Own Setup Asked M : Type 0} → Tables Own Setup Asked M → Beginning
    → List Act → KnownFacts Setup Asked M
known_of tables begins acts =
    record {
      setup = or_else (last_told (setup_by tables) acts) (known_before tables.setup_known begins);
      last_asked = known_by begins None
          (option_map (λ asked. Some asked) (last_told (asked_by tables) acts));
      profile = profile_of begins;
      enabled = known_enabled begins (effect_of tables) acts;
      past = known_past begins (effect_of tables) (parts_by tables) acts;
    }

-- facts that may be, where this is known and the device holds messages or holds none
pub record AllowsFacts {Setup Asked M : Type 0} (known : KnownFacts Setup Asked M) (holds : Bool)
    (facts : Facts Setup Asked M) : Type 0 where
  pub setup : facts.setup ≡ known.setup
  pub last_asked : Allows known.last_asked facts.last_asked
  pub enabled : facts.enabled ≡ known.enabled
  pub past : AllowsPast known.past holds facts.past
