-- Devices: whether two are one, and their words in what is printed (this profile).
use Rattle.std.specs.Prelude.{ℕ, List, codes, Bool, true, false}
use Rattle.mdb_msgs.specs.declared.command.Device.{Device}
use Rattle.mdb_msgs.specs.declared.command.Device.TheVariants.{Changer, Bill, Reader}
use Rattle.mdb_msgs.specs.declared.command.ReaderUnit.TheVariants.{First, Second}

abbrev pub same_device : Device → Device → Bool
same_device Changer Changer = true
same_device Bill Bill = true
same_device (Reader First) (Reader First) = true
same_device (Reader Second) (Reader Second) = true
same_device _ _ = false

abbrev pub device_word : Device → List ℕ
device_word Changer = codes "changer"
device_word Bill = codes "bill"
device_word (Reader First) = codes "cashless"
device_word (Reader Second) = codes "cashless-2"
