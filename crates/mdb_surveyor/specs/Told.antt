-- What the rows so far tell of how the devices are set up (this profile). Lists of acts stand
-- newest first.
use Rattle.std.specs.Prelude.{List, [], ◌∷◌, Bool, true, false, Option, Some, None, ℕ, nat_lt, if◌then◌else◌}
use Rattle.mdb_msgs.specs.declared.command.Device.{Device}
use Rattle.mdb_msgs.specs.declared.command.Device.TheVariants as devices
use Rattle.mdb_msgs.specs.declared.command.ReaderUnit.{ReaderUnit}
use Rattle.mdb_msgs.specs.declared.command.ReaderUnit.TheVariants.{First, Second}
use Rattle.mdb_msgs.specs.declared.setups.ReaderSetup.{ReaderSetup}
use Rattle.mdb_msgs.specs.declared.setups.Setups.{Setups}
use Rattle.mdb_msgs.specs.Commands.{device_of}
use Rattle.mdb_msgs.specs.SetupData.{known_with}
use Rattle.mdb_msgs.specs.Settings.{nothing_known}
use Rattle.mdb_bus.specs.declared.act.Act.{Act}
use Rattle.mdb_bus.specs.declared.act.Act.TheVariants as acts
use Rattle.mdb_bus.specs.declared.levels.Levels.{Levels}
use Rattle.mdb_bus.specs.declared.levels.ReaderLevels.{ReaderLevels}
use Rattle.mdb_bus.specs.declared.scope.Beginning.{Beginning}
use Rattle.mdb_bus.specs.declared.scope.Beginning.TheVariants.{PowerOn, Joined}
use Rattle.mdb_bus.specs.declared.scope.Profile.{Profile}
use Rattle.mdb_bus.specs.declared.scope.Profile.TheVariants.{Base, Extended}
use Rattle.mdb_bus.specs.declared.scope.Scope.{Scope}
use Rattle.mdb_bus.specs.ActLists.{levels_after, levels_told}
use Rattle.mdb_bus.specs.Scopes.{first_levels, levels_before, profile_of}
use Rattle.mdb_surveyor.specs.declared.told.Told.{Told}
use Rattle.mdb_surveyor.specs.Features.{features_after, features_before}

-- the setup data that are known before a recording that begins so
abbrev pub setups_of : Beginning → Setups
setups_of (PowerOn profile) = nothing_known
setups_of (Joined setups profile) = setups

-- before the first row
abbrev pub told_before : Scope → Told
told_before scope = record {
  setups = setups_of scope.begins;
  levels = levels_before scope;
  unanswered = scope.levels;
  features = features_before scope.begins;
}

-- a config message of a reader answers what the controller told it of its feature level
abbrev pub answered : Device → Levels → Levels
answered (devices.Reader First) levels =
    record levels { first = record levels.first { asked = None } }
answered (devices.Reader Second) levels =
    record levels { second = record levels.second { asked = None } }
answered device levels = levels

-- what is told once a device's reply tells these setup data, if it tells any
abbrev pub with_answer : Device → Option Setups → Told → Told
with_answer device None told = told
with_answer device (Some setups) told =
    record told { setups = setups; unanswered = answered device told.unanswered }

-- what is told after an act: a SETUP config ask tells a feature level; a reply tells how its device
-- is set up where it is an answer to SETUP, or has a config message, whoever heard it, and by the
-- extended profile the reader's own level
abbrev pub learnt_by : Profile → Act → Told → Told
learnt_by profile (acts.Ask command) told = record told {
  levels = levels_after command told.levels;
  unanswered = levels_after command told.unanswered;
}
learnt_by profile (acts.Reply command reply) told =
    with_answer (device_of command) (known_with told.setups (device_of command) reply)
    (record told { levels = levels_told profile command reply told.levels })
learnt_by profile act told = told

-- the same with what the act tells of whose features are known, in a recording that begins so
abbrev pub told_by : Beginning → Act → Told → Told
told_by begins act told = record (learnt_by (profile_of begins) act told) {
  features = features_after act told.features;
}

-- what is told after an act, if there is one
abbrev pub told_if : Beginning → Option Act → Told → Told
told_if begins None told = told
told_if begins (Some act) told = told_by begins act told

-- what is told after acts
abbrev pub told_after : Beginning → Told → List Act → Told
told_after begins told [] = told
told_after begins told (act ∷ acts) = told_by begins act (told_after begins told acts)

-- whether a level is known, and below 2
abbrev pub is_below_2 : Option ℕ → Bool
is_below_2 None = false
is_below_2 (Some level) = nat_lt level 2

-- The level that the controller told a reader, as a stretch is told of it. A fault may hide a SETUP
-- that tells a higher one: so one below 2 is told only where the reader's is below 2 too.
abbrev pub asked_on : ReaderLevels → Option ℕ
asked_on levels =
    if is_below_2 levels.asked then if is_below_2 levels.told then levels.asked else None
    else levels.asked

-- What a stretch is told of a reader by the extended profile: the last levels, and whether its
-- features are known.
abbrev pub setup_on : ReaderSetup → ReaderLevels → Bool → ReaderSetup
setup_on known levels features = record {
  config = known.config;
  asked = asked_on levels;
  told = levels.told;
  features = features;
}

-- the setup data that a stretch is told
abbrev pub setups_on : Profile → Told → Setups
setups_on Base told = told.setups
setups_on Extended told = record told.setups {
  first_reader = setup_on told.setups.first_reader told.levels.first told.features.first;
  second_reader = setup_on told.setups.second_reader told.levels.second told.features.second;
}

-- what is told as a stretch begins so: of setup data and features what it is told, and by the
-- extended profile of levels too
abbrev pub told_on : Beginning → Told → Told
told_on begins told = record told {
  setups = setups_of begins;
  levels = first_levels begins told.levels;
  features = features_before begins;
}

-- the levels that a stretch is told beside its setup data: by the base profile those of the
-- controller that no config message has answered; by the extended one the setup data have them, and
-- these aren't read
abbrev pub levels_on : Profile → Told → Levels
levels_on Base told = told.unanswered
levels_on Extended told = told.levels

-- what is told of a reader's levels
abbrev pub levels_at : ReaderUnit → Levels → ReaderLevels
levels_at First levels = levels.first
levels_at Second levels = levels.second

-- the level that the controller has told a reader
abbrev pub level_of : ReaderUnit → Levels → Option ℕ
level_of First levels = levels.first.asked
level_of Second levels = levels.second.asked

-- whether the last one is below 2
abbrev pub is_told_below_2 : Told → ReaderUnit → Bool
is_told_below_2 told unit = is_below_2 (level_of unit told.levels)
