-- The run of a replay is there, and no other has its marks.
use Rattle.mdb_run_search.proofs.Replaying.{only-run, run-of}
use Rattle.mdb_run_search.proofs.laws.replays_stand_for_the_only_run_with_their_marks.Goals as goal

pub returns : goal.returns
returns c replay rows marks on = (
  _,
  run-of c.ways_with_choices_join.ensures on,
  λ other marked device. (only-run c.transcripts_have_one_act_list.ensures on marked
      device).1,
)
