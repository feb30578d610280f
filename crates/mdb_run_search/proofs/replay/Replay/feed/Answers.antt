-- A row that is taken leaves a run with its mark.
use Rattle.mdb_run_search.proofs.Replaying.{run-of}
use Rattle.mdb_run_search.proofs.replay.Replay.feed.Goals as goal

pub returns-then-take-clause-has_run : goal.returns-then-take-clause-has_run
returns-then-take-clause-has_run c events marks on = rw (← c.if-take.ensures.scope)
    (_, run-of c.ways_with_choices_join.ensures (c.if-take.ensures.reached events marks on))
