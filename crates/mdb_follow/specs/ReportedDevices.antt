-- The devices that are followed, as a second table: what a report says of each.
use Rattle.std.specs.Prelude.{ℕ, List, Option, option_map, ◌*◌, Some, None, max}
use Rattle.mdb_msgs.specs.declared.command.Device.{Device}
use Rattle.mdb_bus.specs.declared.act.Act.{Act}
use Rattle.mdb_bus.specs.declared.scope.Beginning.{Beginning}
use Rattle.mdb_follow.specs.declared.silence.TheConstants.{CHANGER_SILENCE_MAX, BILL_SILENCE_MAX, READER_SILENCE_MAX, MICROS_PER_SECOND}
use Rattle.mdb_msgs.specs.declared.command.Device.TheVariants as devices
use Rattle.mdb_cash.specs.BillAmounts as bill
use Rattle.mdb_cash.specs.BillFacts as bill_facts
use Rattle.mdb_cash.specs.ChangerAmounts as changer
use Rattle.mdb_cash.specs.ChangerFacts as changer_facts
use Rattle.mdb_cashless.specs.ByProfileFacts as reader
use Rattle.mdb_msgs.specs.declared.command.ReaderUnit.{ReaderUnit}
use Rattle.mdb_msgs.specs.declared.command.ReaderUnit.TheVariants.{First, Second}

-- What is reported of a device, in a recording that begins so.
pub record ReportedDevice : Type 1 where
  -- its place in a report, from 0
  pub place : ℕ
  -- what is known of the device after acts
  pub Known : Type 0
  pub known : Beginning → List Act → Known
  -- by what is known, the decimal places of its money, and how long it may be silent
  pub decimals : Known → Option ℕ
  pub limit : Known → ℕ
  -- how many amounts acts tell of it that have no value, since nothing tells how it is set up
  pub unvalued : Beginning → List Act → ℕ

-- how long a reader may be silent, by the response time (Z7, in seconds) that it has told
abbrev pub reader_limit : Option ℕ → ℕ
reader_limit None = READER_SILENCE_MAX
reader_limit (Some seconds) = max READER_SILENCE_MAX (MICROS_PER_SECOND * seconds)

abbrev pub reader_place : ReaderUnit → ℕ
reader_place First = 2
reader_place Second = 3

-- The decimal places of a device are those that it has told in its last setup table, a reader in
-- its last config message, heard or not; where it has told none, those that are known from
-- elsewhere. Both readers have one rule.
abbrev pub reported_of : Device → ReportedDevice
reported_of devices.Changer =
    record {
      place = 0;
      Known = changer_facts.KnownFacts;
      known = changer_facts.known_of;
      decimals = λ known. option_map (λ setup. setup.decimals) known.setup;
      limit = λ known. CHANGER_SILENCE_MAX;
      unvalued = changer.unvalued;
    }
reported_of devices.Bill =
    record {
      place = 1;
      Known = bill_facts.KnownFacts;
      known = bill_facts.known_of;
      decimals = λ known. option_map (λ setup. setup.decimals) known.setup;
      limit = λ known. BILL_SILENCE_MAX;
      unvalued = bill.unvalued;
    }
reported_of (devices.Reader unit) =
    record {
      place = reader_place unit;
      Known = reader.FactsByProfile;
      known = λ begins. reader.facts_of begins unit;
      decimals = λ known. option_map (λ config. config.decimals) (reader.config_of known);
      limit = λ known.
          reader_limit (option_map (λ config. config.response) (reader.config_of known));
      unvalued = reader.unvalued unit;
    }

-- the place of a device
abbrev pub device_place : Device → ℕ
device_place device = (reported_of device).place
