-- The follower was fed the rows before this one, and each of them was possible.
use Rattle.mdb_follow.proofs.Words.{take}
use Rattle.mdb_follow.proofs.Following.{HasFed}
use Rattle.mdb_follow.proofs.follower.Follower.feed_all.Given as goal

abbrev pub invariant-loop-event : goal.invariant-loop-event
invariant-loop-event l = HasFed l.fn.self (take l.event-index l.events) l.event-index l.self
