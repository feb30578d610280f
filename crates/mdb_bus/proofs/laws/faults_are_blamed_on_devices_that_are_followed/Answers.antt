-- A device is blamed only as the one asked last, and only followed devices are asked.
use Rattle.mdb_bus.proofs.Named.{blamed_followed}
use Rattle.mdb_bus.proofs.laws.faults_are_blamed_on_devices_that_are_followed.Goals as goal

pub returns : goal.returns
returns c = blamed_followed
