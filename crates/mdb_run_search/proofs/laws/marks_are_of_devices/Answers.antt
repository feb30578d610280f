-- Each mark is at an act in which one device alone has a part, so no two devices share a row.
use Rattle.mdb_run_search.proofs.OwnMarks.{own_apart, own_in}
use Rattle.mdb_run_search.proofs.laws.marks_are_of_devices.Goals as goal

pub returns-clause-own : goal.returns-clause-own
returns-clause-own c = own_in

pub returns-clause-apart : goal.returns-clause-apart
returns-clause-apart c = own_apart
