-- Rows have one act list and a row one fault, so the verdict has the shown one or an earlier no.
use Rattle.mdb_show.proofs.SameFault.{verdict_up_to}
use Rattle.mdb_show.proofs.laws.shown_faults_are_those_of_verdicts.Goals as goal

pub returns : goal.returns
returns c form scope records fault text answer shown = verdict_up_to scope (record {
  fronts = c.fronts_of_act_lists_have_act_lists.ensures scope;
  one_list = c.transcripts_have_one_act_list.ensures scope;
  one_fault = c.rows_have_one_fault.ensures scope;
  stops = c.rows_that_break_a_rule_end_the_act_list.ensures scope;
}) form records fault text shown answer
