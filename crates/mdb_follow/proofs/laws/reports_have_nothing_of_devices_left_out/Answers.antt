-- The rows have one act list, and that tells nothing of a device that is left out.
use Rattle.mdb_follow.proofs.ReportsWithout.{nothing_left}
use Rattle.mdb_follow.proofs.laws.reports_have_nothing_of_devices_left_out.Goals as goal

pub returns : goal.returns
returns c = nothing_left c.transcripts_have_one_act_list.ensures
