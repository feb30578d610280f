-- What is left of the text gets shorter with each line, so the reading ends.
use Rattle.std.proofs.Common.{length, ◌≤◌}
use Rattle.mdb_page.proofs.weights.next_act.Given as goal

abbrev pub invariant-loop-line : goal.invariant-loop-line
invariant-loop-line l = length l.rest.now ≤ length l.fn.rest.now

abbrev pub decreases-loop-line : goal.decreases-loop-line
decreases-loop-line l = length l.rest.now
