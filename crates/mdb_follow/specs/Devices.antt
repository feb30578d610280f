-- The devices that are followed, as a table: what each is to the checker.
use Rattle.mdb_msgs.specs.declared.command.Device.{Device}
use Rattle.mdb_msgs.specs.declared.command.Device.TheVariants as devices
use Rattle.mdb_bus.specs.declared.fault.Rule.{Rule}
use Rattle.mdb_bus.specs.declared.fault.Rule.TheVariants as rules
use Rattle.mdb_bus.specs.declared.scope.Beginning.{Beginning}
use Rattle.mdb_machine.specs.Machine.{Machine}
use Rattle.mdb_cash.specs.declared.bill.state.BillState.{BillState}
use Rattle.mdb_cash.specs.declared.changer.state.ChangerState.{ChangerState}
use Rattle.mdb_cash.specs.Bill as bill
use Rattle.mdb_cash.specs.Changer as changer
use Rattle.mdb_cashless.specs.declared.by_profile.state.StateByProfile.{StateByProfile}
use Rattle.mdb_cashless.specs.ByProfile as reader

-- A device with the controller's dealings with it, in a recording that begins so.
pub record DeviceSpec : Type 1 where
  -- the rule that is broken where its machine has no step
  pub rule : Rule
  -- their states, and what they may do
  pub State : Type 0
  pub machine : Beginning → Machine State

-- what each device is to the checker
abbrev pub spec_of : Device → DeviceSpec
spec_of devices.Changer =
    record {
      rule = rules.Changer;
      State = ChangerState;
      machine = changer.machine;
    }
spec_of devices.Bill =
    record {
      rule = rules.Bill;
      State = BillState;
      machine = bill.machine;
    }
spec_of (devices.Reader unit) =
    record {
      rule = rules.Cashless;
      State = StateByProfile;
      machine = reader.machine unit;
    }
