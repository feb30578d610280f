-- Acts and faults of the link name only devices that are followed, so offences of a replay do.
use Rattle.mdb_run_search.proofs.NothingLeftOut.{offends_followed}
use Rattle.mdb_run_search.proofs.laws.replay_offences_are_blamed_on_devices_that_are_followed.Goals as goal

pub returns : goal.returns
returns c = offends_followed c.acts_name_devices_that_are_followed.ensures
    c.faults_are_blamed_on_devices_that_are_followed.ensures
