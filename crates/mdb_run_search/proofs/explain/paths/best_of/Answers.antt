-- The best so far is the best of all at the end.
use Rattle.mdb_run_search.proofs.Words.{no_path, take_all, take_more}
use Rattle.mdb_run_search.proofs.Bests.{best-alone, best-goes, best-stays}
use Rattle.mdb_run_search.proofs.explain.paths.best_of.Goals as goal

pub loop-other-init : goal.loop-other-init
loop-other-init g c code = best-alone code _

pub loop-other-preserved : goal.loop-other-preserved
loop-other-preserved g c code =
    rw (take_more _ _ (0, no_path) c.loop-other-test.true) (elim c.if-is_worse_than.branch [
      | goal.then-is_worse_than w ↦ rw w.best-is (best-goes _ _ (c.loop-other.invariant code)
          w.if-is_worse_than.ensures.worse)
      | goal.else-is_worse_than w ↦ rw w.best-is (best-stays _ _ (c.loop-other.invariant code)
          w.if-is_worse_than.ensures.not)
    ])

pub returns : goal.returns
returns g c entry has =
    rw (← c.deref.ensures.value, c.in-Some.ensures.cases.0)
    (rw (take_all _ _ c.loop-other-test.false)
    at (c.loop-other.invariant c.in-Some.field-0-0.now.0))
