-- After a fault that had no room none is listed.
use Rattle.std.proofs.Common.{arith}
use Rattle.mdb_page.proofs.OneFault.{stays_full}
use Rattle.mdb_page.proofs.faults.FaultListing.take.Goals as goal

pub returns-then-self-clause-taken : goal.returns-then-self-clause-taken
returns-then-self-clause-taken c done body skip earlier has is =
    stays_full c.args.ended.now has (omega (arith, c.if-self-gt0.false)) c.if-self.true
