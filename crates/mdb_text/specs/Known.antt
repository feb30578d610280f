-- What is known from elsewhere of how the devices are set up (this profile).
use Rattle.std.specs.Prelude.{◌||◌, Bool, is_some}
use Rattle.mdb_msgs.specs.declared.device_set.DeviceSet.{DeviceSet}
use Rattle.mdb_msgs.specs.declared.setups.ReaderSetup.{ReaderSetup}
use Rattle.mdb_msgs.specs.declared.setups.Setups.{Setups}

-- whether anything is known of a reader
abbrev pub is_known : ReaderSetup → Bool
is_known reader = is_some reader.config || is_some reader.asked || is_some reader.told
    || reader.features

-- the devices of which something is known
abbrev pub known_devices : Setups → DeviceSet
known_devices setups = record {
  changer = is_some setups.changer;
  bill = is_some setups.bill;
  first_reader = is_known setups.first_reader;
  second_reader = is_known setups.second_reader;
}
