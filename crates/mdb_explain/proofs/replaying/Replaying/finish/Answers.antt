-- The rows that were taken have a report.
use Rattle.mdb_explain.proofs.replaying.Replaying.finish.Goals as goal

pub returns-in-Err-Offence-clause-finishes : goal.returns-in-Err-Offence-clause-finishes
returns-in-Err-Offence-clause-finishes c scope taken has =
    cc (rw c.in-Err-Offence.is at
    (c.report.ensures.answers has.part.rows has.part.passed has.stands))

pub returns-in-Err-Mark-clause-finishes : goal.returns-in-Err-Mark-clause-finishes
returns-in-Err-Mark-clause-finishes c scope taken has =
    absurd (cc (rw c.in-Err-Mark.is at
    (c.report.ensures.answers has.part.rows has.part.passed has.stands)))
