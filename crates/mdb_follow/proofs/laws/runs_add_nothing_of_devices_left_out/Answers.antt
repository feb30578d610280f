-- A device that is left out has a part in breaks alone, and a break adds nothing.
use Rattle.mdb_follow.proofs.LeavingOut.{run_leaves_nothing}
use Rattle.mdb_follow.proofs.laws.runs_add_nothing_of_devices_left_out.Goals as goal

pub returns : goal.returns
returns c = run_leaves_nothing
