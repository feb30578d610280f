-- The ways through no act are those of the states in which a machine may start.
use Rattle.mdb_run_search.proofs.Paths.{start-paths, start-within}
use Rattle.mdb_run_search.proofs.explain.paths.start.Goals as goal

pub returns-clause-stands : goal.returns-clause-stands
returns-clause-stands g c weight links = record {
  facts = c.facts_start-facts.ensures;
  best = start-paths links c.in_ok-entries.ensures g.met.P.Pair.below;
}

pub returns-clause-within : goal.returns-clause-within
returns-clause-within g c links = start-within links c.in_ok-entries.ensures
