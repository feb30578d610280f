-- So it does where further devices are left out of the stretch.
use Rattle.mdb_late_start.proofs.Truth.{came_in_less}
use Rattle.mdb_late_start.proofs.laws.what_came_lies_within_the_bounds_of_a_stretch_without_further_devices.Goals as goal

pub returns : goal.returns
returns c = λ scope more setups levels front middle rows sums run report may leaves has is passes
    told account followed known none. came_in_less c.end_laws.ensures scope setups levels front
    middle sums run may has.anew passes told
    c.what_is_known_of_a_device_is_of_its_own_acts.ensures.unvalued rows report account
    (known, none) c.runs_go_on_without_further_devices.ensures
    c.act_lists_stay_without_further_devices.ensures
    c.acts_of_followed_devices_stay.ensures.followed more leaves has is followed
