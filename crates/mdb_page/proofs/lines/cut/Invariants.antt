-- No byte so far is the mark.
use Rattle.std.proofs.Common.{length, take, ◌-◌, ◌≢◌, ◌≤◌, All}
use Rattle.mdb_page.proofs.lines.cut.Given as goal

abbrev pub invariant-loop-i : goal.invariant-loop-i
invariant-loop-i l = (l.i ≤ length l.all) × All (λ byte. byte ≢ l.mark) (take l.i l.all)

abbrev pub decreases-loop-i : goal.decreases-loop-i
decreases-loop-i l = length l.all - l.i
