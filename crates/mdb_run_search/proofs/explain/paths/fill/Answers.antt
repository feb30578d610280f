-- The entries after an act are what the steps from each entry lead to.
use Rattle.mdb_run_search.proofs.Words.{arith, rules, no_path, take_all, take_more}
use Rattle.mdb_run_search.proofs.Chains.{keep-then}
use Rattle.mdb_run_search.proofs.Paths.{entry-within-kept}
use Rattle.mdb_run_search.proofs.TakenIn.{led-push}
use Rattle.mdb_run_search.proofs.explain.paths.fill.Goals as goal

pub take_steps-requires : goal.take_steps-requires
take_steps-requires g c = (
  search rules,
  (
    c.requires.size,
    (
      c.requires.settled,
      entry-within-kept (omega arith) c.loop-entry.invariant.kept
          (c.requires.within c.loop-entry.entry-index _ c.loop-entry-test.true),
    ),
  ),
)

pub loop-entry-preserved : goal.loop-entry-preserved
loop-entry-preserved g c = record {
  kept = keep-then c.loop-entry.invariant.kept c.take_steps.ensures.kept;
  led = λ profile acts stands.
      rw (take_more c.args.from.now c.loop-entry.entry-index (0, no_path) c.loop-entry-test.true)
      (led-push _ _ c.loop-entry.invariant.kept c.take_steps.ensures.kept
      (c.loop-entry.invariant.led profile acts stands)
      (c.in_ok-take_steps.ensures.takes profile acts stands));
}

pub returns-clause-led : goal.returns-clause-led
returns-clause-led g c profile acts stands =
    rw (take_all c.loop-entry.entry-index c.args.from.now c.loop-entry-test.false)
    at (c.loop-entry.invariant.led profile acts stands)
