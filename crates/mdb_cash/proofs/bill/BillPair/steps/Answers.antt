-- The steps by codes are those after what is known of the acts.
use Rattle.mdb_cash.proofs.Words.{sym, coded_below, steps_coded}
use Rattle.mdb_cash.specs.shared.BillCodes.{apart, below, code_of}
use Rattle.mdb_cash.proofs.bill.BillPair.steps.Goals as goal

pub returns-clause-steps : goal.returns-clause-steps
returns-clause-steps c begins acts stands = steps_coded code_of _ apart _ _ _ _ c.at.ensures
    (rw (sym stands) c.steps-steps.ensures.steps) (rw c.as_slice.ensures.value at c.coded.ensures)

pub returns-clause-below : goal.returns-clause-below
returns-clause-below c = coded_below code_of 66 below _ _
    (rw c.as_slice.ensures.value at c.coded.ensures) c.steps-steps.ensures.small
