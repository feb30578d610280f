-- Recordings that begin in mid-session, as callers ask for them (this profile).
use Rattle.mdb_msgs.specs.declared.device_set.DeviceSet.{DeviceSet}
use Rattle.mdb_msgs.specs.declared.device_set.TheConstants.DeviceSet.{NONE}
use Rattle.mdb_msgs.specs.declared.setups.Setups.{Setups}
use Rattle.mdb_msgs.specs.Settings.{nothing_known}
use Rattle.mdb_bus.specs.declared.scope.Beginning.TheVariants.{Joined}
use Rattle.mdb_bus.specs.declared.scope.Profile.{Profile}
use Rattle.mdb_bus.specs.declared.scope.Profile.TheVariants.{Base}
use Rattle.mdb_bus.specs.declared.scope.Scope.{Scope}
use Rattle.mdb_bus.specs.Scopes.{no_levels}

-- in mid-session, by a profile, with these setup data known, with these devices left out
abbrev pub joined_by : Profile → Setups → DeviceSet → Scope
joined_by profile setups devices =
    record { begins = Joined setups profile; without = devices; levels = no_levels }

-- and by the base profile
abbrev pub joined : Setups → DeviceSet → Scope
joined setups devices = joined_by Base setups devices

-- in mid-session, with no setup data known, and with all devices
abbrev pub all_joined : Scope
all_joined = joined nothing_known NONE
