-- Each run from power-on is one in mid-session.
use Rattle.mdb_late_start.proofs.EndRuns.{run_joined}
use Rattle.mdb_late_start.proofs.laws.runs_from_power_on_are_joined_runs.Goals as goal

pub returns : goal.returns
returns c = λ profile setups without rows sums run may.
    run_joined c.end_laws.ensures profile setups without rows sums run
    (c.act_lists_from_power_on_are_joined_ones.ensures profile setups without run.pieces rows may
    run.act_list)
