-- A device that is left out has a part in breaks alone, and these add and report nothing.
use Rattle.mdb_run_search.proofs.NothingLeftOut.{nothing_in_replay}
use Rattle.mdb_run_search.proofs.laws.replay_reports_have_nothing_of_devices_left_out.Goals as goal

pub returns : goal.returns
returns c = nothing_in_replay (record {
  names = c.acts_name_devices_that_are_followed.ensures;
  alone = c.devices_left_out_have_a_part_in_breaks_alone.ensures;
  adds = c.runs_add_nothing_of_devices_left_out.ensures;
  facts = record {
    decimals = c.breaks_tell_nothing_of_a_device.ensures.decimals;
    unvalued = c.breaks_tell_nothing_of_a_device.ensures.unvalued;
  };
})
