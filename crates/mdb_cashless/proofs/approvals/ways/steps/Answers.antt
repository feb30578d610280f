-- A settled act has the one step. Of an open act, three guesses give all steps.
use Rattle.mdb_cashless.proofs.Words.{◌∙◌, ap, length, refl, sym}
use Rattle.mdb_cashless.specs.ExtendedReader.{ReaderStep}
use Rattle.mdb_cashless.specs.inner.Approvals.{facts_in}
use Rattle.mdb_cashless.proofs.ApprovalWays.{three_added, ways_of}
use Rattle.mdb_cashless.proofs.Listed.{adds_first, none_among, none_small}
use Rattle.mdb_cashless.proofs.approvals.ways.steps.Goals as goal

pub returns-then-settles-clause-steps : goal.returns-then-settles-clause-steps
returns-then-settles-clause-steps c =
    let Step = ReaderStep c.args.unit (facts_in c.args.facts.now) c.args.act.now c.args.choice
    c.args.before in
    adds_first _ _ Step Step (ap length c.new-steps.ensures) c.add_step.ensures.steps
    (λ after gains. (λ step. step, λ step. step))

pub returns-then-settles-clause-small : goal.returns-then-settles-clause-small
returns-then-settles-clause-small c =
    c.add_step.ensures.small (none_small _ (ap length c.new-steps.ensures))

pub returns-clause-steps : goal.returns-clause-steps
returns-clause-steps c = λ after gains.
    let told = c.as_slice-told.ensures.value ∙ c.told_by-list.ensures in
    let guess = c.guess-sale.ensures.is in
    let last = c.saturating_sub.ensures in
    three_added (none_among _ (after, gains) (ap length c.new-steps.ensures))
    (c.add_step-2.ensures.steps after gains) (c.add_step-3.ensures.steps after gains)
    (c.add_step-4.ensures.steps after gains)
    (ways_of c.args.unit c.args.facts.now c.args.choice c.args.before after gains c.args.act.now
    _ _ _ c.assuming-none.ensures.facts
    (c.assuming-front.ensures.facts ∙ rw last (rw told (rw guess refl)))
    (c.assuming-whole.ensures.facts ∙ rw told (rw guess refl))
    (sym c.settles.ensures ∙ c.if-settles.false))

pub returns-clause-small : goal.returns-clause-small
returns-clause-small c =
    c.add_step-4.ensures.small (c.add_step-3.ensures.small (c.add_step-2.ensures.small
    (none_small _ (ap length c.new-steps.ensures))))
