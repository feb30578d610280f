-- The steps are the one by a settled act, or those of the guesses.
use Rattle.mdb_cashless.proofs.Words.{◌∙◌, ap, length, sym, StepKnowing, known_in}
use Rattle.mdb_cashless.proofs.Listed.{adds_first, adds_one, none_small, small_one}
use Rattle.mdb_cashless.proofs.ReaderMoves.{knowing_of}
use Rattle.mdb_cashless.proofs.reader.guesses.steps.Goals as goal

pub returns-then-settles-clause-steps : goal.returns-then-settles-clause-steps
returns-then-settles-clause-steps c =
    let Step = StepKnowing c.args.unit (known_in c.args.known.now) c.args.act.now c.args.choice
    c.args.before in
    adds_first _ _ Step Step (ap length c.new-steps.ensures)
    (adds_one _ _ Step _ c.step_settled.ensures.step c.add_step.ensures.items)
    (λ after gains. (λ step. step, λ step. step))

pub returns-then-settles-clause-small : goal.returns-then-settles-clause-small
returns-then-settles-clause-small c = small_one _ _ _
    (none_small _ (ap length c.new-steps.ensures)) c.step_settled.ensures.small
    c.add_step.ensures.items

pub returns-in-Some-clause-steps : goal.returns-in-Some-clause-steps
returns-in-Some-clause-steps c = λ after gains. knowing_of
    (rw (c.in-Ask.is, sym c.own.ensures ∙ c.in-Some.is) (c.add_asks.ensures.steps after gains))

pub returns-in-Some-own-clause-steps : goal.returns-in-Some-own-clause-steps
returns-in-Some-own-clause-steps c = λ after gains. knowing_of
    (rw (c.in-Ack.is, sym c.own-in-Ack.ensures ∙ c.in-Some-own.is)
    (c.add_acks.ensures.steps after gains))

pub returns-in-Some-own-2-clause-steps : goal.returns-in-Some-own-2-clause-steps
returns-in-Some-own-2-clause-steps c = λ after gains. knowing_of
    (rw (c.in-Reply.is, sym c.own-in-Reply.ensures ∙ c.in-Some-own-2.is)
    (c.add_replies.ensures.steps after gains))
