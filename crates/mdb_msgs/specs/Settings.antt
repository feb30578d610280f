-- Sets of devices and setup data, as callers make them (this profile).
use Rattle.std.specs.Prelude.{true, ℕ, Bool, false, Some, None, is_some}
use Rattle.mdb_msgs.specs.declared.command.Device.{Device}
use Rattle.mdb_msgs.specs.declared.command.Device.TheVariants.{Changer, Bill, Reader}
use Rattle.mdb_msgs.specs.declared.command.ReaderUnit.TheVariants.{First, Second}
use Rattle.mdb_msgs.specs.declared.device_set.DeviceSet.{DeviceSet}
use Rattle.mdb_msgs.specs.declared.command.ReaderUnit.{ReaderUnit}
use Rattle.mdb_msgs.specs.declared.setups.ReaderSetup.{ReaderSetup}
use Rattle.mdb_msgs.specs.declared.setups.Setups.{Setups}
use Rattle.mdb_msgs.specs.Setups.{config_known, reader_known}

-- a set and one device more; the same where it is one of them
abbrev pub with_device : DeviceSet → Device → DeviceSet
with_device set Changer = record set { changer = true }
with_device set Bill = record set { bill = true }
with_device set (Reader First) = record set { first_reader = true }
with_device set (Reader Second) = record set { second_reader = true }

-- nothing is known
abbrev pub none_known : ReaderSetup
none_known = record { config = None; asked = None; told = None; features = false }

abbrev pub nothing_known : Setups
nothing_known =
    record { changer = None; bill = None; first_reader = none_known; second_reader = none_known }

-- whether a device's answer to SETUP is known
abbrev pub has_answer : Setups → Device → Bool
has_answer setups Changer = is_some setups.changer
has_answer setups Bill = is_some setups.bill
has_answer setups (Reader unit) = is_some (config_known setups unit)

-- what is known with this of a reader
abbrev pub with_reader : Setups → ReaderUnit → ReaderSetup → Setups
with_reader setups First reader = record setups { first_reader = reader }
with_reader setups Second reader = record setups { second_reader = reader }

-- what is known where the controller and a reader told each other this feature level
abbrev pub with_level : Setups → ReaderUnit → ℕ → Setups
with_level setups unit level =
    with_reader setups unit
    (record (reader_known setups unit) { asked = Some level; told = Some level })
