-- The rows have one act list, so what a replay with given marks reports is one.
use Rattle.mdb_run_search.proofs.ReplayReports.{one_replay_report}
use Rattle.mdb_run_search.proofs.laws.rows_have_one_replay_report.Goals as goal

pub returns : goal.returns
returns c scope = one_replay_report scope (c.transcripts_have_one_act_list.ensures scope)
