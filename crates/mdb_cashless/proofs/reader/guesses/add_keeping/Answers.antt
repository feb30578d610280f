-- A reply after facts of which the last kept list is known, or isn't.
use Rattle.mdb_cashless.proofs.Words.{ReplyStep, facts_in}
use Rattle.mdb_cashless.proofs.Listed.{adds_as, adds_one, keeps_known, small_one}
use Rattle.mdb_cashless.proofs.reader.guesses.add_keeping.Goals as goal

pub returns-then-knows_kept-clause-items : goal.returns-then-knows_kept-clause-items
returns-then-knows_kept-clause-items c = adds_as _ _ _ _
    (adds_one _ _ (ReplyStep (facts_in c.args.facts.now) c.args.command c.args.reply.now
    c.args.choice c.args.before) _ c.answer.ensures.step c.add_step.ensures.items)
    (λ after gains. keeps_known (facts_in c.args.facts.now) _ _ _ _ c.args.knows_kept after gains
    c.if-knows_kept.true)

pub returns-then-knows_kept-clause-small : goal.returns-then-knows_kept-clause-small
returns-then-knows_kept-clause-small c small =
    small_one _ _ _ small c.answer.ensures.small c.add_step.ensures.items

pub returns-else-knows_kept-clause-items : goal.returns-else-knows_kept-clause-items
returns-else-knows_kept-clause-items c = rw c.if-knows_kept.false c.add_fronts.ensures.items
