-- A seeker stands for the rows so far, up to the last.
use Rattle.mdb_run_search.proofs.Words.{◌∙◌, take, take_more}
use Rattle.mdb_run_search.proofs.Seeking.{reached-next}
use Rattle.mdb_run_search.proofs.explain.seeker.seek.Goals as goal

pub take-requires-clause-reached : goal.take-requires-clause-reached
take-requires-clause-reached c =
    let scope = c.args.scope.now in (
      take c.loop-event.event-index c.args.events.now,
      c.loop-event.invariant.on,
      rw (c.loop-event.invariant.scope, c.event-item.is)
          (reached-next scope (c.fronts_of_reached_rows_are_reached.ensures scope)
          c.args.events.now c.loop-event.event-index _ c.loop-event-test.true c.requires.reached),
    )

pub loop-event-preserved : goal.loop-event-preserved
loop-event-preserved c = record {
  on = rw (
    take_more c.args.events.now c.loop-event.event-index c.event-item.result c.loop-event-test.true,
    ← c.event-item.is,
  ) (c.in_ok-take.ensures.on (take c.loop-event.event-index c.args.events.now)
      c.loop-event.invariant.on);
  scope = c.take.ensures.scope ∙ c.loop-event.invariant.scope;
}
