-- What becomes of runs and reports if further devices are left out (this profile).
use Rattle.std.specs.Prelude.{◌≡◌, None}
use Rattle.mdb_msgs.specs.declared.command.Device.{Device}
use Rattle.mdb_msgs.specs.declared.command.Device.TheVariants as devices
use Rattle.mdb_msgs.specs.Setups.{config_known}
use Rattle.mdb_bus.specs.declared.scope.Beginning.{Beginning}
use Rattle.mdb_bus.specs.declared.scope.Beginning.TheVariants.{PowerOn, Joined}
use Rattle.mdb_bus.specs.declared.scope.Scope.{Scope}
use Rattle.mdb_bus.specs.Scopes.{IsFollowed}
use Rattle.mdb_bus.specs.LeavingOut.{IsLeftOut}
use Rattle.mdb_follow.specs.declared.account_name.AccountName.{AccountName}
use Rattle.mdb_follow.specs.declared.report.Report.{Report}
use Rattle.mdb_follow.specs.AccountNames.{account_device, account_of}
use Rattle.mdb_follow.specs.Ranges.{no_account}
use Rattle.mdb_follow.specs.Report.{device_decimals, device_report, device_unvalued}
use Rattle.mdb_follow.specs.Runs.{AllSums}
use Rattle.mdb_follow.specs.Silences.{no_counts}
use Rattle.mdb_follow.specs.Sums.{no_sums}

-- sums without the devices that a scope leaves out: the same of the others, and nothing of these
pub record AreSumsWithout (scope : Scope) (sums other : AllSums) : Type 0 where
  pub followed : (device : Device) → IsFollowed scope device → other device ≡ sums device
  pub left_out : (device : Device) → IsLeftOut scope device → other device ≡ no_sums

-- Nothing is known from elsewhere of how a device is set up; from power-on nothing ever is.
abbrev pub IsNotKnown : Beginning → Device → Type 0
IsNotKnown (PowerOn profile) device = Unit {0}
IsNotKnown (Joined setups profile) devices.Changer = setups.changer ≡ None
IsNotKnown (Joined setups profile) devices.Bill = setups.bill ≡ None
IsNotKnown (Joined setups profile) (devices.Reader unit) = config_known setups unit ≡ None

-- A report has nothing of the devices that a scope leaves out, but for decimal places that are
-- known from elsewhere.
pub record HasNothingLeftOut (scope : Scope) (report : Report) : Type 0 where
  pub accounts : (account : AccountName) → IsLeftOut scope (account_device account)
      → account_of account report ≡ no_account
  pub decimals : (device : Device) → IsLeftOut scope device → IsNotKnown scope.begins device
      → device_decimals device report ≡ None
  pub asks : (device : Device) → IsLeftOut scope device
      → (device_report device report).asks ≡ no_counts
  pub unvalued : (device : Device) → IsLeftOut scope device → device_unvalued device report ≡ 0

-- two reports have the same of the devices that a scope follows
pub record HaveSameFollowed (scope : Scope) (one other : Report) : Type 0 where
  pub rows : one.rows ≡ other.rows
  pub accounts : (account : AccountName) → IsFollowed scope (account_device account)
      → account_of account one ≡ account_of account other
  pub devices : (device : Device) → IsFollowed scope device
      → device_report device one ≡ device_report device other
