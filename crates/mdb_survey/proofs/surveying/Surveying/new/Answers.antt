-- A new surveying has surveyed no rows.
use Rattle.mdb_survey.proofs.Words.{profile_of, survey_lines_in}
use Rattle.mdb_survey.proofs.Surveys.{begins}
use Rattle.mdb_survey.proofs.surveying.Surveying.new.Goals as goal

pub returns-clause-surveyed : goal.returns-clause-surveyed
returns-clause-surveyed c =
    begins (survey_lines_in c.args.form (profile_of c.args.scope.now.begins)) c.args.scope.now
    c.scoped.result c.new.result.page c.scoped.ensures.stands
    c.scoped.ensures.empty c.new.ensures
