-- The seeker stands for the rows so far, in the scope that was given.
use Rattle.mdb_run_search.proofs.Words.{◌≡◌, take, IsSeeker}
use Rattle.mdb_bus.specs.Bus.{scope_of}
use Rattle.mdb_run_search.proofs.explain.seeker.seek.Given as goal

abbrev pub invariant-loop-event : goal.invariant-loop-event
invariant-loop-event l = record {
  on : IsSeeker l.goal (take l.event-index l.events) l.seeker;
  scope : scope_of l.seeker.bus ≡ l.scope;
}
