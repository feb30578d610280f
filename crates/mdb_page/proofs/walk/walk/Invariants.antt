-- The acts of the lines so far are listed.
use Rattle.std.proofs.Common.{length, ◌≤◌}
use Rattle.mdb_bus.specs.Bus.{scope_of}
use Rattle.mdb_page.proofs.Walks.{Walks}
use Rattle.mdb_page.proofs.walk.walk.Given as goal

abbrev pub invariant-loop-act : goal.invariant-loop-act
invariant-loop-act l = record {
  left : length l.rest.now ≤ length l.initial.rest.now;
  few : l.rows.last ≤ 100000000;
  walks : Walks (scope_of l.fn.bus) l.fn.rest.now l.rest.now l.bus l.fn.lists.acts.first
      l.fn.acts l.acts l.lists.acts l.rows;
}

abbrev pub decreases-loop-act : goal.decreases-loop-act
decreases-loop-act l = length l.rest.now
