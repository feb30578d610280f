-- A row ends an act of the one act list or breaks one rule of the link, and not both.
use Rattle.mdb_follow.proofs.OneAnswer.{one-offence}
use Rattle.mdb_follow.proofs.laws.rows_have_one_offence.Goals as goal

pub returns : goal.returns
returns c scope = one-offence scope (record {
  one = c.transcripts_have_one_act_list.ensures scope;
  one_fault = c.rows_have_one_fault.ensures scope;
  ends = c.rows_that_break_a_rule_end_the_act_list.ensures scope;
  goes = c.act_lists_go_on_row_by_row.ensures scope;
})
