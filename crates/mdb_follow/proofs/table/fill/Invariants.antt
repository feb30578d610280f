-- The entries so far are those that the ones before the act have led to.
use Rattle.mdb_follow.proofs.Ways.{LedSoFar}
use Rattle.mdb_follow.proofs.table.fill.Given as goal

abbrev pub invariant-loop-code : goal.invariant-loop-code
invariant-loop-code g l =
    LedSoFar g.row.N g.P.Pair.code_of g.P.Pair.machine
    (λ begins acts. g.P.Pair.stands_for begins l.facts acts) l.act l.from l.code-index l.into
    l.places
