-- What is left is the smaller act list, and devices left out go the ways of the reached rows.
use Rattle.mdb_follow.proofs.LeavingOut.{run_with}
use Rattle.mdb_follow.proofs.laws.runs_without_further_devices_come_from_runs.Goals as goal

pub returns : goal.returns
returns c = run_with c.act_lists_without_further_devices_are_what_is_left.ensures
