-- Each round takes the first mark of one list, so both get used up.
use Rattle.mdb_run_search.proofs.Words.{◌+◌, ◌++◌, ℕ, List, length, Mark, Merges}
use Rattle.mdb_run_search.proofs.explain.merge.Given as goal

-- what the marks that are left become comes behind those so far
abbrev pub invariant-loop-mark : goal.invariant-loop-mark
invariant-loop-mark l =
    (rest : List (ℕ × Mark)) → Merges l.ones l.others rest
    → Merges l.one l.other (l.both.items ++ rest)

abbrev pub decreases-loop-mark : goal.decreases-loop-mark
decreases-loop-mark l = length l.ones + length l.others
