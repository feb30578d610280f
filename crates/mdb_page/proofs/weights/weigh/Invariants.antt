-- Each act takes at least one line of the text, so the weighing ends.
use Rattle.std.proofs.Common.{length}
use Rattle.mdb_page.proofs.weights.weigh.Given as goal

abbrev pub decreases-loop-scale : goal.decreases-loop-scale
decreases-loop-scale g l = length l.rest
