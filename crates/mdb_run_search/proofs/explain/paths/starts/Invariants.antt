-- The entries are those of the states below this code in which the pair may start.
use Rattle.mdb_run_search.proofs.Words.{PowerOn, AreStarts}
use Rattle.mdb_run_search.proofs.explain.paths.starts.Given as goal

abbrev pub invariant-loop-code : goal.invariant-loop-code
invariant-loop-code g l =
    let p = g.P.Pair in
    AreStarts p.CODES p.code_of (p.machine (PowerOn l.profile)) l.code l.entries.items
