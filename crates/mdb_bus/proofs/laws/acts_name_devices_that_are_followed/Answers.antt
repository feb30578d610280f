-- An act names the device of its command, and commands of devices that are left out are foreign.
use Rattle.mdb_bus.proofs.Named.{named_followed}
use Rattle.mdb_bus.proofs.laws.acts_name_devices_that_are_followed.Goals as goal

pub returns : goal.returns
returns c = named_followed
