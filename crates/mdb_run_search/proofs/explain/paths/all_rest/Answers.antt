-- Each entry rests, up to the last.
use Rattle.mdb_run_search.proofs.Words.{PowerOn}
use Rattle.mdb_run_search.proofs.Paths.{rests-more}
use Rattle.mdb_run_search.proofs.explain.paths.all_rest.Goals as goal

pub loop-code-preserved : goal.loop-code-preserved
loop-code-preserved g c profile =
    let p = g.P.Pair in
    rests-more p.code_of (p.machine (PowerOn profile)) c.args.act.now c.args.entries.now
    c.loop-code.code-index _ c.state.result c.loop-code-test.true g.met.P.Pair.apart
    c.state.ensures (c.if-not-rests.ensures (PowerOn profile)) (c.loop-code.invariant profile)
