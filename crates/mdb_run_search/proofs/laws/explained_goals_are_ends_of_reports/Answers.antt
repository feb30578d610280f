-- The marks are those of a run that comes to the end, and all runs with them have its value.
use Rattle.mdb_run_search.proofs.ReplayReports.{comes_to_the_end}
use Rattle.mdb_run_search.proofs.laws.explained_goals_are_ends_of_reports.Goals as goal

pub returns : goal.returns
returns c = comes_to_the_end
