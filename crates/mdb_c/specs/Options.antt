-- How options say that a recording is taken.
use Rattle.std.specs.Prelude.{ℕ, Bool, Option, Some, None, not, nat_eq, nat_le, if◌then◌else◌}
use Rattle.std.specs.Int.Bits.{bit_and}
use Rattle.mdb_msgs.specs.declared.device_set.DeviceSet.{DeviceSet}
use Rattle.mdb_msgs.specs.Settings.{nothing_known}
use Rattle.mdb_bus.specs.Scopes.{from_power_on}
use Rattle.mdb_bus.specs.JoinedScopes.{joined_by}
use Rattle.mdb_bus.specs.declared.scope.Profile.{Profile}
use Rattle.mdb_bus.specs.declared.scope.Profile.TheVariants.{Base, Extended}
use Rattle.mdb_bus.specs.declared.scope.Scope.{Scope}
use Rattle.mdb_c.specs.declared.options.TheConstants.{EXTENDED, JOINED, WITHOUT_BILL, WITHOUT_CASHLESS, WITHOUT_CASHLESS_2, WITHOUT_CHANGER}

-- whether an option is one of those that are given
abbrev pub is_given : ℕ → ℕ → Bool
is_given options option = not (nat_eq (bit_and options option) 0)

-- the devices that are left out
abbrev pub left_out : ℕ → DeviceSet
left_out options = record {
  changer = is_given options WITHOUT_CHANGER;
  bill = is_given options WITHOUT_BILL;
  first_reader = is_given options WITHOUT_CASHLESS;
  second_reader = is_given options WITHOUT_CASHLESS_2;
}

-- what is followed
abbrev pub profile_of : ℕ → Profile
profile_of options = if is_given options EXTENDED then Extended else Base

-- how the recording is taken: no way where a bit is set that is no option
abbrev pub scope_of : ℕ → Option Scope
scope_of options =
    if nat_le 64 options then None else Some (if is_given options JOINED
    then joined_by (profile_of options) nothing_known (left_out options)
    else from_power_on (profile_of options) (left_out options))
