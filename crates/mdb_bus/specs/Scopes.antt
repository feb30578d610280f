-- How a recording is taken (this profile): what is followed of it.
use Rattle.std.specs.Prelude.{◌≡◌, ◌&&◌, ℕ, Bool, false, true, List, slice_index, None, if◌then◌else◌}
use Rattle.mdb_msgs.specs.declared.command.Command.{Command}
use Rattle.mdb_msgs.specs.declared.command.Device.{Device}
use Rattle.mdb_msgs.specs.declared.device_set.DeviceSet.{DeviceSet}
use Rattle.mdb_msgs.specs.declared.device_set.TheConstants.DeviceSet.{NONE}
use Rattle.mdb_msgs.specs.declared.need.Need.{Need}
use Rattle.mdb_msgs.specs.declared.need.Need.TheVariants.{Foreign}
use Rattle.mdb_msgs.specs.Commands.{Spells, device_of, is_enable_options}
use Rattle.mdb_msgs.specs.DeviceSets.{has}
use Rattle.mdb_msgs.specs.Needs.{begins_options, is_to_one_of, needed}
use Rattle.mdb_msgs.specs.declared.command.ReaderUnit.TheVariants.{First, Second}
use Rattle.mdb_bus.specs.declared.levels.Levels.{Levels}
use Rattle.mdb_bus.specs.declared.levels.ReaderLevels.{ReaderLevels}
use Rattle.mdb_bus.specs.declared.scope.Beginning.{Beginning}
use Rattle.mdb_bus.specs.declared.scope.Beginning.TheVariants.{PowerOn, Joined}
use Rattle.mdb_bus.specs.declared.scope.Profile.{Profile}
use Rattle.mdb_bus.specs.declared.scope.Profile.TheVariants.{Base, Extended}
use Rattle.mdb_bus.specs.declared.scope.Scope.{Scope}
use Rattle.mdb_bus.specs.ExtendedLevels.{levels_in}

-- what is followed of the protocol
abbrev pub profile_of : Beginning → Profile
profile_of (PowerOn profile) = profile
profile_of (Joined setups profile) = profile

-- no feature level told to a reader, or by it
abbrev pub no_level : ReaderLevels
no_level = record { asked = None; told = None }

abbrev pub no_levels : Levels
no_levels = record { first = no_level; second = no_level }

-- from power-on, by a profile, with these devices left out
abbrev pub from_power_on : Profile → DeviceSet → Scope
from_power_on profile devices =
    record { begins = PowerOn profile; without = devices; levels = no_levels }

-- and by the base profile
abbrev pub leaving_out : DeviceSet → Scope
leaving_out devices = from_power_on Base devices

-- from power-on, with all devices
abbrev pub power_on : Scope
power_on = leaving_out NONE

-- the same, with these feature levels told to the readers before the recording began
abbrev pub told : Levels → Scope → Scope
told levels scope = record scope { levels = levels }

-- The feature levels that are known as a recording begins: those that are told of it, or in
-- mid-session by the extended profile those of its setup data.
abbrev pub first_levels : Beginning → Levels → Levels
first_levels (Joined setups Extended) levels =
    record { first = levels_in setups First; second = levels_in setups Second }
first_levels begins levels = levels

abbrev pub levels_before : Scope → Levels
levels_before scope = first_levels scope.begins scope.levels

-- a device is followed, or left out
abbrev pub IsFollowed : Scope → Device → Type 0
IsFollowed scope device = has scope.without device ≡ false

-- whether a profile leaves ENABLE OPTIONS out, whose block is foreign then: the base profile does
abbrev pub leaves_features : Profile → Bool
leaves_features Base = true
leaves_features Extended = false

-- a profile has a command
abbrev pub HasCommand : Profile → Command → Type 0
HasCommand profile command = (leaves_features profile && is_enable_options command) ≡ false

-- what a block that begins with these bytes needs, whoever it is to
abbrev pub needed_by : Profile → List ℕ → Need
needed_by profile prefix =
    if leaves_features profile && begins_options prefix then Foreign else needed prefix

-- the same, where a block to a device that is left out is foreign too
abbrev pub needed_in : Scope → List ℕ → Need
needed_in scope prefix =
    if is_to_one_of scope.without (slice_index prefix 0) then Foreign
    else needed_by (profile_of scope.begins) prefix

-- a command that the profile has, of a device that is followed, and its block
pub record Asks (scope : Scope) (command : Command) (block : List ℕ) : Type 0 where
  pub spells : Spells command block
  pub known : HasCommand (profile_of scope.begins) command
  pub followed : IsFollowed scope (device_of command)
