-- Rows have one report, and a row one offence, so records have one answer of their own.
use Rattle.mdb_verdict.proofs.OneAnswer.{one_answer}
use Rattle.mdb_verdict.proofs.laws.texts_have_one_answer.Goals as goal

pub returns : goal.returns
returns c scope = one_answer scope (record {
  fronts = c.fronts_of_reached_rows_are_reached.ensures scope;
  one_report = c.rows_have_one_report.ensures scope;
  one_offence = c.rows_have_one_offence.ensures scope;
})
