-- The laws of runs with given marks are those of `one_replay_answer`.
use Rattle.mdb_explain.proofs.OneReplayAnswer.{one_replay_answer}
use Rattle.mdb_explain.proofs.laws.inputs_of_replay_have_one_answer.Goals as goal

pub returns : goal.returns
returns c scope = one_replay_answer scope (record {
  of_marks = record {
    rise = c.marks_rise.ensures.rise scope;
    within = c.marks_rise.ensures.within scope;
  };
  fronts = c.fronts_of_marked_runs_have_the_marks_there.ensures scope;
  one_report = c.rows_have_one_replay_report.ensures scope;
  one_fault = c.rows_have_one_fault_with_given_marks.ensures scope;
})
