-- The sides of the devices so far were led over the act, and the others are as before.
use Rattle.mdb_follow.proofs.Sided.{FrontFollows}
use Rattle.mdb_follow.proofs.sides.Sides.lead_all.Given as goal

abbrev pub invariant-loop-device : goal.invariant-loop-device
invariant-loop-device l = FrontFollows l.device-index l.fn.self l.act l.self
