-- What came in an end lies within the bounds of its report.
use Rattle.mdb_late_start.proofs.Truth.{came_within}
use Rattle.mdb_late_start.proofs.laws.what_came_lies_within_its_bounds_with_the_levels_told_in_front.Goals as goal

pub returns : goal.returns
returns c = λ scope setups levels front end sums run report may anew passes told is account known
    none. came_within c.end_laws.ensures scope setups levels front end sums run may anew passes told
    report is account (known, none)
