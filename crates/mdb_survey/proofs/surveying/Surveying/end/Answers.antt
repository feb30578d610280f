-- The last lines are added, or a fault is handed on.
use Rattle.mdb_survey.proofs.Words.{is_fault}
use Rattle.mdb_survey.proofs.Surveyings.{end_refused}
use Rattle.mdb_survey.proofs.surveying.Surveying.end.Goals as goal

pub returns-in_err-add_end : goal.returns-in_err-add_end
returns-in_err-add_end g c =
    rw (is_fault c.from_residual.result c.from_residual.ensures.1)
    (end_refused _ _ _ _ c.ending-last.result.0 c.ending-last.result.1 c.ending-last.ensures _
    c.in_err-add_end.ensures.refused)
