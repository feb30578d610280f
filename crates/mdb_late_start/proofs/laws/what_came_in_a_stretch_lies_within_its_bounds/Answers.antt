-- What came in the middle of a stretch lies within the bounds of its report.
use Rattle.mdb_late_start.proofs.Truth.{came_in_middle}
use Rattle.mdb_late_start.proofs.laws.what_came_in_a_stretch_lies_within_its_bounds.Goals as goal

pub returns : goal.returns
returns c = λ scope setups levels front middle rows sums run report may has is passes told account
    known none. came_in_middle c.end_laws.ensures scope setups levels front middle sums run may
    has.anew passes told c.what_is_known_of_a_device_is_of_its_own_acts.ensures.unvalued rows report
    account (known, none) has is
