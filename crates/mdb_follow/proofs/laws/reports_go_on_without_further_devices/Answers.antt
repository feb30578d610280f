-- Without further devices, rows still have an act list and runs, so they have a report.
use Rattle.mdb_follow.proofs.ReportsWithout.{report_without}
use Rattle.mdb_follow.proofs.laws.reports_go_on_without_further_devices.Goals as goal

pub returns : goal.returns
returns c = report_without c.transcripts_have_one_act_list.ensures
    c.act_lists_stay_without_further_devices.ensures
