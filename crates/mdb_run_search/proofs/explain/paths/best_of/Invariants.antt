-- The best so far is one of the entries seen, and none of them is better.
use Rattle.mdb_run_search.proofs.Words.{ℕ, ◌∷◌, take, IsBestOf}
use Rattle.mdb_run_search.proofs.explain.paths.best_of.Given as goal

abbrev pub invariant-loop-other : goal.invariant-loop-other
invariant-loop-other g l =
    (code : ℕ) → IsBestOf ((code, l.initial.best) ∷ take l.other-index l.rest) l.best
