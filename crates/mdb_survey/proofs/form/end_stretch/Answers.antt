-- The stretch that is returned is the one whose lines are added.
use Rattle.mdb_survey.proofs.form.end_stretch.Goals as goal

pub returns-clause-ended : goal.returns-clause-ended
returns-clause-ended g c = (
  c.end_stretch-ended.result,
  c.end_stretch-ended.ensures.ended,
  c.add_ended.ensures.added,
  c.add_ended.ensures.refused,
)
