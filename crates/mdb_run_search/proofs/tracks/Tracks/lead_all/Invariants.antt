-- The tracks of the devices so far were led over the act, and the others are as before.
use Rattle.mdb_run_search.proofs.Tracked.{FrontLeads}
use Rattle.mdb_run_search.proofs.tracks.Tracks.lead_all.Given as goal

abbrev pub invariant-loop-device : goal.invariant-loop-device
invariant-loop-device l = FrontLeads l.device-index l.fn.self l.act l.choice l.self
