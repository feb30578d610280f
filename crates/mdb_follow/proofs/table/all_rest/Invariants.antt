-- The act leaves each entry before this place as it is.
use Rattle.mdb_follow.proofs.Words.{take, Beginning, AllRest}
use Rattle.mdb_follow.proofs.table.all_rest.Given as goal

abbrev pub invariant-loop-code : goal.invariant-loop-code
invariant-loop-code g l =
    let p = g.P.Pair in
    (begins : Beginning) → AllRest p.code_of (p.machine begins) l.act (take l.code-index l.entries)
