-- The end of a transcript has the acts of the whole.
use Rattle.mdb_bus.proofs.Promises.{open_front}
use Rattle.mdb_late_start.proofs.Cutting.{splits}
use Rattle.mdb_late_start.proofs.OpenEnds.{all_fit}
use Rattle.mdb_late_start.proofs.laws.ends_of_transcripts_have_act_lists.Goals as goal

pub returns : goal.returns
returns c = λ scope setups front end pieces may.
    splits scope setups front end pieces (all_fit scope setups (record {
      opens = open_front c.first_byte_tells_the_device.ensures
          c.need_leaves_a_command_open.ensures c.need_leaves_another_command_open.ensures;
      one = c.transcripts_have_one_act_list.ensures;
      fronts = c.fronts_of_act_lists_have_act_lists.ensures;
      agrees = c.open_replies_are_read_as_at_any_levels.ensures.agrees;
    }) front end may)
