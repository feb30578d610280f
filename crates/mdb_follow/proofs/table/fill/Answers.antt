-- The entries after an act that the facts settle: the loop reads those before it one by one.
use Rattle.mdb_follow.proofs.Words.{rules, ◌<◌, refl, take_all, Contains-get_or, IsSmall}
use Rattle.mdb_follow.proofs.Led.{led-read, moves-kept, within-with_moves}
use Rattle.mdb_follow.proofs.TwoMoves.{either-moves, small-moves}
use Rattle.mdb_follow.proofs.Ways.{table-led}
use Rattle.mdb_follow.proofs.table.fill.Goals as goal

pub add_steps-requires : goal.add_steps-requires
add_steps-requires g c =
    let within = c.requires.within c.loop-code.code-index _ c.loop-code-test.true in
    let size = c.requires.size in
    let one = c.step-plain.ensures.below in
    let other = c.second_step-second.ensures.below in
    let is = c.loop-code.invariant in
    (search rules, (search rules, (within, (rw size one, (rw size other, (is.keyed, is.placed))))))

pub loop-code-preserved : goal.loop-code-preserved
loop-code-preserved g c =
    let p = g.P.Pair in
    let moves = c.add_steps.ensures.entries in
    let kept = moves-kept g.row.N _ moves.0 moves.0 c.requires.size refl
    (small-moves (λ next gains. (next < p.CODES) × IsSmall gains) c.step-plain.result
    c.second_step-second.result moves.0 c.step-plain.ensures.below
    c.second_step-second.ensures.below moves.1) in
    record {
      keyed = c.add_steps.ensures.keyed;
      placed = c.add_steps.ensures.placed;
      led = λ begins acts stands table.
          led-read _ _ c.args.from.now c.loop-code.code-index _ moves.0
          c.loop-code.into c.add_steps.new.entries c.loop-code-test.true
          (table.bounds.exact _ _ (Contains-get_or c.args.from.now c.loop-code.code-index _
          c.loop-code-test.true))
          (either-moves c.args.act.now p.code_of ((p.machine begins).Step acts c.args.act.now) _
          p.device c.step-plain.result c.second_step-second.result moves.0
          (c.step-plain.ensures.steps begins acts stands)
          (c.second_step-second.ensures.sound begins acts stands)
          (c.second_step-second.ensures.whole begins acts stands) moves.1) moves.2
          (c.loop-code.invariant.led begins acts stands table);
      within = λ limit all. rw moves.2 (within-with_moves limit c.loop-code.into _ moves.0 kept.1
          (all c.loop-code.code-index _ c.loop-code-test.true)
          (c.loop-code.invariant.within limit all));
    }

pub returns-clause-table : goal.returns-clause-table
returns-clause-table g c begins acts stands table =
    let p = g.P.Pair in
    table-led p.code_of (p.machine begins) c.args.act.now acts c.args.from.now c.loop-code.into
    g.met.P.Pair.apart table c.loop-code.invariant.keyed.apart
    (rw (take_all c.loop-code.code-index c.args.from.now c.loop-code-test.false) at
    (c.loop-code.invariant.led begins acts stands table))
