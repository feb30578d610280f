-- Each link leads to an older mark, so the reading ends at the oldest one.
use Rattle.mdb_run_search.proofs.Chains.{IsRead}
use Rattle.mdb_run_search.proofs.explain.chains.Chains.read.Given as goal

-- the marks of the chain down to here are read
abbrev pub invariant-loop-at : goal.invariant-loop-at
invariant-loop-at l = IsRead l.self.links.items l.fn.chain.at l.marks.items l.at

abbrev pub decreases-loop-at : goal.decreases-loop-at
decreases-loop-at l = l.at
