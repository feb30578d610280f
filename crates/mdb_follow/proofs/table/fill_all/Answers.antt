-- The entries after an act, settled or not: the loop reads those before it one by one.
use Rattle.mdb_follow.proofs.Words.{take_all, Contains-get_or}
use Rattle.mdb_follow.proofs.Led.{led-read, within-with_moves}
use Rattle.mdb_follow.proofs.Ways.{table-led}
use Rattle.mdb_follow.proofs.table.fill_all.Goals as goal

pub loop-code-preserved : goal.loop-code-preserved
loop-code-preserved g c =
    let all = c.add_all_steps.ensures.entries in
    record {
      keyed = c.add_all_steps.ensures.keyed;
      placed = c.add_all_steps.ensures.placed;
      led = λ begins acts stands table.
          led-read _ _ c.args.from.now c.loop-code.code-index _ all.moves
          c.loop-code.into c.add_all_steps.new.into c.loop-code-test.true
          (table.bounds.exact _ _ (Contains-get_or c.args.from.now c.loop-code.code-index _
          c.loop-code-test.true))
          (all.are begins acts stands) all.led
          (c.loop-code.invariant.led begins acts stands table);
      within = λ limit each. rw all.led (within-with_moves limit c.loop-code.into _ all.moves
          all.small (each c.loop-code.code-index _ c.loop-code-test.true)
          (c.loop-code.invariant.within limit each));
    }

pub returns-clause-table : goal.returns-clause-table
returns-clause-table g c begins acts stands table =
    let p = g.P.Pair in
    table-led p.code_of (p.machine begins) c.args.act.now acts c.args.from.now c.loop-code.into
    g.met.P.Pair.apart table c.loop-code.invariant.keyed.apart
    (rw (take_all c.loop-code.code-index c.args.from.now c.loop-code-test.false) at
    (c.loop-code.invariant.led begins acts stands table))
