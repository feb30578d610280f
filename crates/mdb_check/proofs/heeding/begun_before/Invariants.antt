-- From the end on, no row begins a block so far.
use Rattle.mdb_check.proofs.Following.{NoneBegins}
use Rattle.mdb_check.proofs.heeding.begun_before.Given as goal

abbrev pub invariant-loop-left : goal.invariant-loop-left
invariant-loop-left l = NoneBegins l.rows l.left l.fn.index

abbrev pub decreases-loop-left : goal.decreases-loop-left
decreases-loop-left l = l.left
