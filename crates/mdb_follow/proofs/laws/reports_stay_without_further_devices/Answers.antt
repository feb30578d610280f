-- What is left of the act list tells the same of each device that is still followed.
use Rattle.mdb_follow.proofs.ReportsWithout.{same_followed}
use Rattle.mdb_follow.proofs.laws.reports_stay_without_further_devices.Goals as goal

pub returns : goal.returns
returns c = λ less more rows one other leaves is. same_followed
    c.transcripts_have_one_act_list.ensures c.act_lists_stay_without_further_devices.ensures less
    more rows one leaves is other
