-- Sets of devices.
use Rattle.std.specs.Prelude.{Bool}
use Rattle.mdb_msgs.specs.declared.command.Device.{Device}
use Rattle.mdb_msgs.specs.declared.command.Device.TheVariants.{Changer, Bill, Reader}
use Rattle.mdb_msgs.specs.declared.command.ReaderUnit.TheVariants.{First, Second}
use Rattle.mdb_msgs.specs.declared.device_set.DeviceSet.{DeviceSet}

-- whether a device is one of a set
abbrev pub has : DeviceSet → Device → Bool
has set Changer = set.changer
has set Bill = set.bill
has set (Reader First) = set.first_reader
has set (Reader Second) = set.second_reader
