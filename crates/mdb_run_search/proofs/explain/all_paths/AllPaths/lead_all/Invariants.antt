-- Each round leads the paths of one device over the act, and leaves those of the others.
use Rattle.mdb_run_search.proofs.AllPaths.{FrontLeads}
use Rattle.mdb_run_search.proofs.explain.all_paths.AllPaths.lead_all.Given as goal

-- the devices so far were led
abbrev pub invariant-loop-device : goal.invariant-loop-device
invariant-loop-device l = FrontLeads l.goal l.act l.row l.device-index l.fn.self l.self
