-- The first row of an end that breaks a rule of the link breaks Profile.
use Rattle.mdb_bus.proofs.Promises.{open_front}
use Rattle.mdb_late_start.proofs.OpenFaults.{left_out_alone}
use Rattle.mdb_late_start.proofs.laws.ends_break_no_rule_of_the_link_but_profile.Goals as goal

pub returns : goal.returns
returns c = λ scope setups. left_out_alone scope setups (record {
  opens = open_front c.first_byte_tells_the_device.ensures c.need_leaves_a_command_open.ensures
      c.need_leaves_another_command_open.ensures;
  one = c.transcripts_have_one_act_list.ensures;
  fronts = c.fronts_of_act_lists_have_act_lists.ensures;
  agrees = c.open_replies_are_read_as_at_any_levels.ensures.agrees;
}) c.open_replies_are_read_as_at_any_levels.ensures.left_out
    c.rows_that_break_a_rule_end_the_act_list.ensures
