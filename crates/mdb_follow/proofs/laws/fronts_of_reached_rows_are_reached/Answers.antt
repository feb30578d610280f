-- Without their last row, reached rows stay reached, and so does each front.
use Rattle.mdb_follow.proofs.OneAnswer.{fronts}
use Rattle.mdb_follow.proofs.laws.fronts_of_reached_rows_are_reached.Goals as goal

pub returns : goal.returns
returns c scope = fronts scope (c.reached_rows_stay_reached_without_the_last.ensures scope)
