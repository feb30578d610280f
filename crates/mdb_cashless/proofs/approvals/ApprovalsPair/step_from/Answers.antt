-- The steps of the pair's unit are those by the facts that stand for its acts.
use Rattle.mdb_cashless.proofs.Words.{sym}
use Rattle.mdb_cashless.proofs.approvals.ApprovalsPair.step_from.Goals as goal

pub returns-clause-step : goal.returns-clause-step
returns-clause-step g c begins acts stands =
    rw (sym stands) (rw (sym c.unit_of.ensures) c.step.ensures.step)
