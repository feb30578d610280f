-- An end of reached rows is reached with the levels told in front of it.
use Rattle.mdb_late_start.proofs.EndRuns.{end_reached}
use Rattle.mdb_late_start.proofs.laws.ends_are_reached_with_the_levels_told_in_front.Goals as goal

pub returns : goal.returns
returns c = end_reached c.end_laws.ensures
