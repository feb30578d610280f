-- The rows so far are followed.
use Rattle.std.proofs.Common.{take}
use Rattle.mdb_check.proofs.Following.{HasFed}
use Rattle.mdb_check.proofs.heeding.Heeding.feed_each.Given as goal

abbrev pub invariant-loop-event : goal.invariant-loop-event
invariant-loop-event l = HasFed l.fn.self (take l.event-index l.rows) l.event-index l.self
