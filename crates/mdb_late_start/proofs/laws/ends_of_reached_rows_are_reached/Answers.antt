-- So it is where none is told.
use Rattle.mdb_late_start.proofs.EndRuns.{each_reached}
use Rattle.mdb_late_start.proofs.laws.ends_of_reached_rows_are_reached.Goals as goal

pub returns : goal.returns
returns c = each_reached c.end_laws.ensures
