-- Whether all entries rest: those that the loop has come past.
use Rattle.mdb_follow.proofs.Words.{take_all}
use Rattle.mdb_follow.proofs.Ways.{rests-more}
use Rattle.mdb_follow.proofs.table.all_rest.Goals as goal

pub loop-code-preserved : goal.loop-code-preserved
loop-code-preserved g c begins =
    let p = g.P.Pair in
    rests-more p.code_of (p.machine begins) c.args.act.now c.args.entries.now
    c.loop-code.code-index _ c.state.result c.loop-code-test.true g.met.P.Pair.apart
    c.state.ensures (c.if-not-rests.ensures begins) (c.loop-code.invariant begins)

pub returns : goal.returns
returns g c begins =
    rw (take_all c.loop-code.code-index c.args.entries.now c.loop-code-test.false) at
    (c.loop-code.invariant begins)
