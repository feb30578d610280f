-- The steps by codes are those after the facts after the acts.
use Rattle.mdb_cashless.proofs.Words.{sym, coded_below, steps_coded}
use Rattle.mdb_cashless.specs.shared.ApprovalCodes.{apart, below, code_of}
use Rattle.mdb_cashless.proofs.approvals.ApprovalsPair.steps.Goals as goal

pub returns-clause-steps : goal.returns-clause-steps
returns-clause-steps g c begins acts stands = steps_coded code_of _ apart _ _ _ _ c.at.ensures
    (rw (sym stands) (rw (sym c.unit_of.ensures) c.steps-steps.ensures.steps))
    (rw c.as_slice.ensures.value at c.coded.ensures)

pub returns-clause-below : goal.returns-clause-below
returns-clause-below g c = coded_below code_of 8 below _ _
    (rw c.as_slice.ensures.value at c.coded.ensures) c.steps-steps.ensures.small
