-- The rows so far are surveyed.
use Rattle.mdb_surveyor.proofs.Words.{take}
use Rattle.mdb_surveyor.proofs.OneSurvey.{HasSurveyed}
use Rattle.mdb_surveyor.proofs.laws.only.rows_have_a_survey.Given as goal

abbrev pub invariant-loop-row : goal.invariant-loop-row
invariant-loop-row l = HasSurveyed l.surveyor l.fn.scope (take l.row-index l.rows) l.row-index
