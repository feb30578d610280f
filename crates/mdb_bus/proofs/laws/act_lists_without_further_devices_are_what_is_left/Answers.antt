-- What is left is an act list of the rows, and these have no other.
use Rattle.mdb_bus.specs.LeavingOut.{leave_out}
use Rattle.mdb_bus.proofs.laws.act_lists_without_further_devices_are_what_is_left.Goals as goal

pub returns : goal.returns
returns c less more rows pieces other wider list is =
    c.transcripts_have_one_act_list.ensures more rows other (leave_out more pieces) is
    (c.act_lists_stay_without_further_devices.ensures less more rows pieces wider list)
