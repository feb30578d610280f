-- An open ask repeats the command asked last or not, and both cases give all its steps.
use Rattle.mdb_machine.proofs.Words.{facts_in}
use Rattle.mdb_machine.proofs.Knowing.{asked_steps, small_more, small_none}
use Rattle.mdb_machine.proofs.conduct.steps_asking.Goals as goal

pub returns-clause-steps : goal.returns-clause-steps
returns-clause-steps g c =
    asked_steps g.met.K.Conduct.some_kept g.K.Keeper.tables g.K.Conduct.conduct
    g.met.K.Conduct.overlooks
    c.args.known.now c.args.command.now c.args.act.now c.args.choice c.args.before
    c.asked_by-asked.result
    (facts_in c.asking.result) (facts_in c.asking-2.result)
    c.step.result c.step-2.result c.new-steps.result.items c.add_step.new.steps.items
    c.add_step-2.new.steps.items c.requires.is c.requires.open c.asked_by-asked.ensures
    c.asking.ensures
    c.asking-2.ensures c.step.ensures.step c.step-2.ensures.step
    c.new-steps.ensures c.add_step.ensures.items c.add_step-2.ensures.items

pub returns-clause-small : goal.returns-clause-small
returns-clause-small g c =
    small_more c.add_step.new.steps.items c.add_step-2.new.steps.items c.step-2.result
    c.add_step-2.ensures.items
    (small_more c.new-steps.result.items c.add_step.new.steps.items c.step.result
    c.add_step.ensures.items (small_none c.new-steps.result.items c.new-steps.ensures)
    c.step.ensures.small)
    c.step-2.ensures.small
