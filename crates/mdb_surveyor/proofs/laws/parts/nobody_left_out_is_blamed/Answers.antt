-- Each fault is blamed on a device that is followed.
use Rattle.mdb_surveyor.proofs.Parts.{nobody_blamed}
use Rattle.mdb_surveyor.proofs.laws.parts.nobody_left_out_is_blamed.Goals as goal

pub returns : goal.returns
returns c = nobody_blamed c.offences_are_blamed_on_devices_that_are_followed.ensures
