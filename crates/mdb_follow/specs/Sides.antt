-- What a side of a follower stands for: a device and the controller.
use Rattle.std.specs.Prelude.{◌≡◌, ℕ, List}
use Rattle.mdb_msgs.specs.declared.command.Device.{Device}
use Rattle.mdb_msgs.specs.declared.command.Device.TheVariants as devices
use Rattle.mdb_msgs.specs.declared.command.ReaderUnit.TheVariants.{First, Second}
use Rattle.mdb_bus.specs.declared.act.Act.{Act}
use Rattle.mdb_bus.specs.declared.scope.Beginning.{Beginning}
use Rattle.mdb_cash.specs.declared.bill.state.TheConstants.{BILL_STATES}
use Rattle.mdb_cash.specs.declared.changer.state.TheConstants.{CHANGER_STATES}
use Rattle.mdb_cash.specs.BillValues as bill_values
use Rattle.mdb_cash.specs.ChangerValues as changer_values
use Rattle.mdb_machine.specs.Machine.{Machine}
use Rattle.mdb_cash.specs.shared.BillCodes as bill_codes
use Rattle.mdb_cash.specs.shared.ChangerCodes as changer_codes
use Rattle.mdb_cashless.specs.declared.by_profile.facts.KnownByProfile.{KnownByProfile}
use Rattle.mdb_cashless.specs.declared.by_profile.state.TheConstants.{STATES_BY_PROFILE}
use Rattle.mdb_cashless.specs.ByProfileValues as reader_values
use Rattle.mdb_cashless.specs.shared.ByProfileCodes as reader_codes
use Rattle.mdb_follow.specs.declared.side.Side.{Side}
use Rattle.mdb_follow.specs.declared.sides.Sides.{Sides}
use Rattle.mdb_follow.specs.ReportedDevices.{reported_of}
use Rattle.mdb_follow.specs.Machines.{StateOf, machine_of}
use Rattle.mdb_follow.specs.Report.{unvalued_of}
use Rattle.mdb_follow.specs.Tables.{IsTable}

-- A side stands for acts, the newest first: what it has of the facts is what is known after them,
-- its table has the states that the ways through them lead to, and its count is that of the amounts
-- without a value that they tell.
pub record IsSide {Facts State : Type 0} {N : ℕ} (stands_for : Facts → List Act → Type 0)
    (code_of : State → ℕ) (machine : Machine State) (unvalued : List Act → ℕ) (side : Side Facts N)
    (acts : List Act) : Type 0 where
  pub facts : stands_for side.facts acts
  pub table : IsTable code_of machine acts side.table
  pub counted : side.unvalued ≡ unvalued acts

-- How a device is kept.
pub record SideSpec (device : Device) : Type 1 where
  -- what is kept of the facts, and what is known of the device by it
  pub Facts : Type 0
  pub known_in : Facts → (reported_of device).Known
  -- how many states its machine has, and their codes
  pub codes : ℕ
  pub code_of : StateOf device → ℕ

-- of each device: beside `spec_of` the one list of the devices that sides are kept by
abbrev pub side_spec_of : (device : Device) → SideSpec device
side_spec_of devices.Changer =
    record {
      Facts = changer_values.Value;
      known_in = changer_values.known_in;
      codes = CHANGER_STATES;
      code_of = changer_codes.code_of;
    }
side_spec_of devices.Bill =
    record {
      Facts = bill_values.Value;
      known_in = bill_values.known_in;
      codes = BILL_STATES;
      code_of = bill_codes.code_of;
    }
side_spec_of (devices.Reader unit) =
    record {
      Facts = KnownByProfile;
      known_in = reader_values.known_in;
      codes = STATES_BY_PROFILE;
      code_of = reader_codes.code_of;
    }

abbrev pub FactsOf : Device → Type 0
FactsOf device = (side_spec_of device).Facts

-- What is kept of the facts is what is known after acts of a recording that begins so.
abbrev pub stands_for : Beginning → (device : Device) → FactsOf device → List Act → Type 0
stands_for begins device facts acts =
    (side_spec_of device).known_in facts ≡ (reported_of device).known begins acts

abbrev pub codes_of : Device → ℕ
codes_of device = (side_spec_of device).codes

abbrev pub code_of : (device : Device) → StateOf device → ℕ
code_of device = (side_spec_of device).code_of

-- what a follower keeps of a device, and that it stands for acts of a recording that begins so
abbrev pub SideOf : Device → Type 0
SideOf device = Side (FactsOf device) (codes_of device)

abbrev pub IsSideOf : Beginning → (device : Device) → SideOf device → List Act → Type 0
IsSideOf begins device side acts =
    IsSide (stands_for begins device) (code_of device) (machine_of begins device)
    (unvalued_of begins device) side acts

-- the side of a device
abbrev pub side_in : Sides → (device : Device) → SideOf device
side_in sides devices.Changer = sides.changer
side_in sides devices.Bill = sides.bill
side_in sides (devices.Reader First) = sides.first_reader
side_in sides (devices.Reader Second) = sides.second_reader

-- each side stands for acts
abbrev pub AreSides : Beginning → Sides → List Act → Type 0
AreSides begins sides acts =
    (device : Device) → IsSideOf begins device (side_in sides device) acts
