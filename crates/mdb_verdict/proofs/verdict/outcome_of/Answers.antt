-- A follower that stands for rows answers with a report, and with no offence.
use Rattle.mdb_verdict.proofs.verdict.outcome_of.Goals as goal

pub returns-in-Err : goal.returns-in-Err
returns-in-Err c rows on = cc (rw c.in-Err.is at (c.report.ensures.answers rows on))
