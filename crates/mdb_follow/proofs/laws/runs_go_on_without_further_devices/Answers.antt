-- Act lists stay without further devices, and the other devices' ways go through what is left.
use Rattle.mdb_follow.proofs.LeavingOut.{run_without}
use Rattle.mdb_follow.proofs.laws.runs_go_on_without_further_devices.Goals as goal

pub returns : goal.returns
returns c = run_without c.act_lists_stay_without_further_devices.ensures
