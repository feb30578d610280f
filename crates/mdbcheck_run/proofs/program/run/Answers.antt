-- What the status of `check` says is said of its task.
use Rattle.mdbcheck_run.proofs.Status.{says_checked}
use Rattle.mdbcheck_run.proofs.program.run.Goals as goal

pub returns-in-Check-clause-says : goal.returns-in-Check-clause-says
returns-in-Check-clause-says g c =
    says_checked c.args.task.now c.in-Check.scope c.in-Check.readers c.in-Check.form _ _ _ _
    c.in-Check.is c.run_check.ensures.says.says
