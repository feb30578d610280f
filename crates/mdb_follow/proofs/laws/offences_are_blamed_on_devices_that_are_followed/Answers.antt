-- Faults of the link, and acts by which a device has no step, name only devices that are followed.
use Rattle.mdb_follow.proofs.ReportsWithout.{blames_followed}
use Rattle.mdb_follow.proofs.laws.offences_are_blamed_on_devices_that_are_followed.Goals as goal

pub returns : goal.returns
returns c = blames_followed
