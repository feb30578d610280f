-- The rows are followed together, except where the recording is joined.
use Rattle.std.proofs.Common.{refl}
use Rattle.mdb_check.proofs.Following.{refused_together, together}
use Rattle.mdb_check.proofs.heeding.Heeding.feed_all.Goals as goal

pub returns-in-Ok-clause-taken : goal.returns-in-Ok-clause-taken
returns-in-Ok-clause-taken c =
    together c.args.self.now _ c.args.rows.now refl c.if-not-self.true c.feed_all.ensures.scope
    c.in-Ok.ensures.taken

pub returns-in-Err-clause-refused : goal.returns-in-Err-clause-refused
returns-in-Err-clause-refused c =
    refused_together c.args.self.now _ c.args.rows.now refl c.if-not-self.true
    c.feed_all.ensures.scope _ c.in-Err.ensures.noted c.in-Err.ensures.numbered
    c.in-Err.ensures.offence c.in-Err.ensures.accepted
