-- The rows have one act list, and a row one fault of the link, so a replay has one fault there.
use Rattle.mdb_run_search.proofs.OneReplayFault.{one-fault}
use Rattle.mdb_run_search.proofs.laws.rows_have_one_fault_with_given_marks.Goals as goal

pub returns : goal.returns
returns c scope rows marks row mark = one-fault scope (record {
  one = c.transcripts_have_one_act_list.ensures scope;
  one_fault = c.rows_have_one_fault.ensures scope;
  ends = c.rows_that_break_a_rule_end_the_act_list.ensures scope;
  goes = c.act_lists_go_on_row_by_row.ensures scope;
}) rows marks row mark
