-- A settled act has the one step. An act that is open is an ask or a reply.
use Rattle.mdb_machine.proofs.Words.{sym, ◌∙◌}
use Rattle.mdb_machine.proofs.Knowing.{only_open, settled_steps, small_more, small_none}
use Rattle.mdb_machine.proofs.conduct.steps.Goals as goal

pub returns-then-settles-clause-steps : goal.returns-then-settles-clause-steps
returns-then-settles-clause-steps g c =
    settled_steps g.met.K.Conduct.some_kept g.K.Keeper.tables g.K.Conduct.conduct
    g.met.K.Conduct.overlooks
    c.args.known.now c.args.act.now c.args.choice c.args.before
    (sym c.settles.ensures ∙ c.if-settles.true) c.step.result c.new-steps.result.items
    c.add_step.new.steps.items c.step.ensures.step c.new-steps.ensures c.add_step.ensures.items

pub returns-then-settles-clause-small : goal.returns-then-settles-clause-small
returns-then-settles-clause-small g c =
    small_more c.new-steps.result.items c.add_step.new.steps.items c.step.result
    c.add_step.ensures.items
    (small_none c.new-steps.result.items c.new-steps.ensures) c.step.ensures.small

pub unreachable-requires : goal.unreachable-requires
unreachable-requires g c =
    only_open g.K.Keeper.tables c.args.known.now.knows_asked c.args.known.now.knows_kept
    c.args.act.now
    c.in_default.not-Ask c.in_default.not-Reply (sym c.settles.ensures ∙ c.if-settles.false)
