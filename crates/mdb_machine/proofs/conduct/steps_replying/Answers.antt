-- Each front of the kept messages is tried in turn, so all steps are found, and all are small.
use Rattle.mdb_machine.proofs.Words.{◌≡◌, ◌+◌, ap, arith, refl, length, take, facts_in}
use Rattle.mdb_machine.proofs.Knowing.{as_facts, replying_steps, small_more, small_none, tried_first, tried_more}
use Rattle.mdb_machine.proofs.conduct.steps_replying.Goals as goal

pub loop-count-init : goal.loop-count-init
loop-count-init g c =
    let tables = g.K.Keeper.tables in
    let conduct = g.K.Conduct.conduct in
    record {
      room = omega (arith, c.add_step.ensures.room, ap length c.new-steps.ensures);
      tried =
          tried_first tables conduct c.args.known.now c.args.act.now c.args.choice c.args.before
          c.args.some
          c.summary_of.result.kept.items c.step.result c.new-steps.result.items
          c.add_step.new.steps.items
          c.new-steps.ensures
          (as_facts tables conduct c.args.act.now c.args.choice c.args.before c.step.result
          (facts_in c.keeping-other.result) _ c.keeping-other.ensures c.step.ensures.step)
          c.add_step.ensures.items;
      small =
          small_more c.new-steps.result.items c.add_step.new.steps.items c.step.result
          c.add_step.ensures.items
          (small_none c.new-steps.result.items c.new-steps.ensures) c.step.ensures.small;
    }

pub loop-count-preserved : goal.loop-count-preserved
loop-count-preserved g c =
    let tables = g.K.Keeper.tables in
    let conduct = g.K.Conduct.conduct in
    let step = c.step-in-loop-count in
    let add = c.add_step-in-loop-count in
    record {
      room = omega (arith, add.ensures.room, c.loop-count.invariant.room);
      tried =
          tried_more tables conduct c.args.known.now c.args.act.now c.args.choice c.args.before
          c.args.some
          c.summary_of.result.kept.items _ c.loop-count.count (c.loop-count.count + 1) step.result
          c.loop-count.steps.items add.new.steps.items refl
          (ap (take (c.loop-count.count + 1)) c.as_slice.ensures.value)
          (as_facts tables conduct c.args.act.now c.args.choice c.args.before step.result
          (facts_in c.keeping-facts.result) _ c.keeping-facts.ensures step.ensures.step)
          add.ensures.items c.loop-count.invariant.tried;
      small = small_more c.loop-count.steps.items add.new.steps.items step.result add.ensures.items
          c.loop-count.invariant.small step.ensures.small;
    }

pub returns-clause-steps : goal.returns-clause-steps
returns-clause-steps g c =
    let is = c.requires.is in
    let all : c.loop-count.count ≡ length c.summary_of.result.kept.items =
    omega (
      arith,
      c.loop-count-test.false,
      c.loop-count.auto.count-end,
      c.len-count-end.ensures.value,
    ) in
    replying_steps g.K.Keeper.tables g.K.Conduct.conduct g.met.K.Conduct.overlooks c.args.known.now
    is.0
    c.args.reply.now c.args.act.now c.args.choice c.args.before c.args.some
    c.summary_of.result.kept.items
    c.loop-count.count c.loop-count.steps.items is.1 c.requires.open c.summary_of.ensures.kept_is
    all
    c.loop-count.invariant.tried
