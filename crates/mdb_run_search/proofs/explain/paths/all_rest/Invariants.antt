-- The act leaves the state of each entry so far, and its sums.
use Rattle.mdb_run_search.proofs.Words.{take, PowerOn, Profile, AllRest}
use Rattle.mdb_run_search.proofs.explain.paths.all_rest.Given as goal

abbrev pub invariant-loop-code : goal.invariant-loop-code
invariant-loop-code g l =
    let p = g.P.Pair in
    (profile : Profile) → AllRest p.code_of (p.machine (PowerOn profile)) l.act
    (take l.code-index l.entries)
