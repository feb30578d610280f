-- The moves by an act: its plain steps, and those by the other choice that it leaves.
use Rattle.mdb_follow.proofs.Words.{rules, ◌<◌, ◌++◌, ℕ, All-append, Gains, IsSmall, by_second, plain_only}
use Rattle.mdb_follow.proofs.Led.{moves-kept, with_moves-append}
use Rattle.mdb_follow.proofs.TwoMoves.{all-moves, plain-moves}
use Rattle.mdb_follow.proofs.table.add_all_steps.Goals as goal

pub add_all-requires : goal.add_all-requires
add_all-requires g c =
    let kept = moves-kept g.row.N _ c.steps-plain.result.items c.as_slice.result.now
    c.requires.size c.as_slice.ensures.value c.steps-plain.ensures.below in
    let is = c.requires in
    (search rules, (search rules, (is.within, (kept.0, (kept.1, (is.keyed, is.placed))))))

pub add_all-requires-in-Some : goal.add_all-requires-in-Some
add_all-requires-in-Some g c =
    let kept = moves-kept g.row.N _ c.steps-other.result.items c.as_slice-in-Some.result.now
    c.requires.size c.as_slice-in-Some.ensures.value c.steps-other.ensures.below in
    let is = c.add_all.ensures in
    (search rules, (search rules, (c.requires.within, (kept.0, (kept.1, (is.keyed, is.placed))))))

pub returns-in-Some-clause-entries : goal.returns-in-Some-clause-entries
returns-in-Some-clause-entries g c =
    let p = g.P.Pair in
    let second = c.other_choice.ensures in
    let one = c.as_slice.result.now in
    let other = c.as_slice-in-Some.result.now in
    let one_kept = moves-kept g.row.N _ c.steps-plain.result.items one c.requires.size
    c.as_slice.ensures.value c.steps-plain.ensures.below in
    let other_kept = moves-kept g.row.N _ c.steps-other.result.items other c.requires.size
    c.as_slice-in-Some.ensures.value c.steps-other.ensures.below in
    record {
      moves = one ++ other;
      are = λ begins acts stands.
          rw (c.as_slice.ensures.value, c.as_slice-in-Some.ensures.value)
          (all-moves c.args.act.now p.code_of ((p.machine begins).Step acts c.args.act.now)
          c.args.code c.in-Some.choice c.steps-plain.result.items c.steps-other.result.items
          (second.stands c.in-Some.choice c.in-Some.is).0
          (by_second (p.machine begins) (g.met.P.Pair.is_machine begins) acts c.args.act.now
          c.other_choice.result c.in-Some.choice c.in-Some.is second.stands second.only)
          (c.steps-plain.ensures.steps begins acts stands)
          (c.steps-other.ensures.steps begins acts stands));
      below = All-append (λ (move : ℕ × Gains). move.0 < g.row.N) one other one_kept.0
          other_kept.0;
      small = All-append (λ (move : ℕ × Gains). IsSmall move.1) one other one_kept.1 other_kept.1;
      led = rw (with_moves-append, ← c.add_all.ensures.entries) c.add_all-in-Some.ensures.entries;
    }

pub returns-in_default-clause-entries : goal.returns-in_default-clause-entries
returns-in_default-clause-entries g c =
    let p = g.P.Pair in
    let one = c.as_slice.result.now in
    let kept = moves-kept g.row.N _ c.steps-plain.result.items one c.requires.size
    c.as_slice.ensures.value c.steps-plain.ensures.below in
    record {
      moves = one;
      are = λ begins acts stands. rw c.as_slice.ensures.value
          (plain-moves c.args.act.now p.code_of ((p.machine begins).Step acts c.args.act.now)
          c.args.code c.steps-plain.result.items
          (plain_only c.args.act.now c.other_choice.result c.in_default.is
          c.other_choice.ensures.only) (c.steps-plain.ensures.steps begins acts stands));
      below = kept.0;
      small = kept.1;
      led = c.add_all.ensures.entries;
    }
