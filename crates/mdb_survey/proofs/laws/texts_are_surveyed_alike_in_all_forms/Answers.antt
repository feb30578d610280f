-- A survey in one form is one in another, with other lines.
use Rattle.mdb_survey.proofs.OneSurvey.{in_other_form}
use Rattle.mdb_survey.proofs.laws.texts_are_surveyed_alike_in_all_forms.Goals as goal

pub returns : goal.returns
returns c = in_other_form
