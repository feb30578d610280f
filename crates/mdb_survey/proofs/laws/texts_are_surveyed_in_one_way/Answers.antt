-- A text is surveyed in one way where its rows are.
use Rattle.mdb_survey.proofs.OneSurvey.{one_surveying}
use Rattle.mdb_survey.proofs.laws.texts_are_surveyed_in_one_way.Goals as goal

pub returns : goal.returns
returns c form scope = one_surveying scope (c.rows_have_one_survey.ensures scope) form
