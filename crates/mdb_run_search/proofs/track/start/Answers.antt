-- At power-on there is one state, all sums are 0, and no amount was counted.
use Rattle.mdb_run_search.proofs.Words.{arith, refl, sym, ◌≡◌, no_sums}
use Rattle.mdb_follow.specs.declared.cell.TheConstants.Cell.{NOTHING}
use Rattle.mdb_follow.proofs.Starts.{nothing-is, nothing-within}
use Rattle.mdb_run_search.proofs.track.start.Goals as goal

pub returns-clause-stands : goal.returns-clause-stands
returns-clause-stands g c = record {
  facts = c.facts_start.ensures;
  sums = no_sums;
  way = ((c.power_on.ensures c.power_on.result).1 refl, refl);
  only = λ state other way. ((c.power_on.ensures state).0 way.0, way.1);
  cell = nothing-is (λ other. other ≡ no_sums) NOTHING refl refl (λ sums is. is);
  counted = sym c.requires;
}

pub returns-clause-within : goal.returns-clause-within
returns-clause-within g c = record {
  ends = nothing-within NOTHING refl;
  count = omega arith;
}
