-- The entries are those of the states below this code in which a pair may start.
use Rattle.mdb_follow.proofs.Starts.{AreStarts}
use Rattle.mdb_follow.proofs.table.add_starts.Given as goal

abbrev pub invariant-loop-code : goal.invariant-loop-code
invariant-loop-code g l =
    let p = g.P.Pair in
    AreStarts g.row.N p.code_of (p.machine l.begins) l.nothing l.code l.entries
