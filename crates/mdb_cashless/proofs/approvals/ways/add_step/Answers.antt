-- A list of steps with small gains stays so with one small step more.
use Rattle.mdb_cashless.proofs.Words.{inl, inr, subst, Contains-push_cases, Gains, IsSmall, ApprovalState, Contains}
use Rattle.mdb_cashless.proofs.approvals.ways.add_step.Goals as goal

pub returns-in-Some-clause-small : goal.returns-in-Some-clause-small
returns-in-Some-clause-small c were after gains among =
    elim (Contains-push_cases c.args.steps.now.items c.in-Some.step (after, gains)
    (subst (λ l. Contains l (after, gains)) c.push.ensures.items among)) [
      | inl old ↦ were after gains old
      | inr same ↦ subst (λ (s : ApprovalState × Gains). IsSmall s.1) same c.in-Some.ensures.small
    ]
