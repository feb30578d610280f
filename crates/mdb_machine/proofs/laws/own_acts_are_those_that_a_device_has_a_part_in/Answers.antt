-- Each act is picked or left by the test, which says whether the device has a part in it.
use Rattle.mdb_machine.specs.shared.OwnWays.{decides, with_other, with_own}
use Rattle.mdb_machine.proofs.laws.own_acts_are_those_that_a_device_has_a_part_in.Goals as goal

pub returns-clause-own : goal.returns-clause-own
returns-clause-own c = with_own

pub returns-clause-other : goal.returns-clause-other
returns-clause-other c = with_other

pub returns-clause-test : goal.returns-clause-test
returns-clause-test c = decides
