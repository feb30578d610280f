-- Two lists of marks become one that is of both.
use Rattle.mdb_run_search.proofs.Words.{[], append-nil}
use Rattle.mdb_run_search.proofs.Merging.{of_both}
use Rattle.mdb_run_search.proofs.explain.merge.Goals as goal

pub returns : goal.returns
returns c =
    rw append-nil at (of_both (c.loop-mark.invariant [] c.in_default.ensures.none))
