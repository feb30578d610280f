-- The report of a run with given marks is there.
use Rattle.mdb_run_search.proofs.ReplayReports.{report_of_run}
use Rattle.mdb_run_search.proofs.laws.rows_with_a_marked_run_have_a_replay_report.Goals as goal

pub returns : goal.returns
returns c scope = report_of_run (record {
  changer = c.from_power_on_all_is_known_of_the_changer.ensures.steps;
  bill = c.from_power_on_all_is_known_of_the_validator.ensures.steps;
  reader = c.from_power_on_all_is_known_of_a_reader.ensures.steps;
}) scope (c.transcripts_have_one_act_list.ensures scope)
