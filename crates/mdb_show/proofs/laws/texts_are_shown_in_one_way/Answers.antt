-- Rows have one act list and a row one fault, so a text is shown in one way.
use Rattle.mdb_show.proofs.OneShowing.{one_showing}
use Rattle.mdb_show.proofs.laws.texts_are_shown_in_one_way.Goals as goal

pub returns : goal.returns
returns c form scope = one_showing form scope (record {
  fronts = c.fronts_of_act_lists_have_act_lists.ensures scope;
  one_list = c.transcripts_have_one_act_list.ensures scope;
  one_fault = c.rows_have_one_fault.ensures scope;
  stops = c.rows_that_break_a_rule_end_the_act_list.ensures scope;
})
