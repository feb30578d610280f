-- A survey is one by the laws of act lists and runs.
use Rattle.mdb_surveyor.proofs.OneSurvey.{one_survey}
use Rattle.mdb_surveyor.proofs.laws.only.rows_have_one_survey.Goals as goal

pub returns : goal.returns
returns c = one_survey (record {
  one = c.transcripts_have_one_act_list.ensures;
  fronts = c.fronts_of_reached_rows_are_reached.ensures;
  one_report = c.rows_have_one_report.ensures;
  one_offence = c.rows_have_one_offence.ensures;
})
