-- Each state in which the machine may start has its entry.
use Rattle.mdb_run_search.proofs.Words.{arith, rules, ◌∙◌, sym, false≢true}
use Rattle.mdb_run_search.proofs.Paths.{more-starts, same-starts}
use Rattle.mdb_run_search.proofs.explain.paths.starts.Goals as goal

pub loop-code-preserved : goal.loop-code-preserved
loop-code-preserved g c =
    let apart = g.met.P.Pair.apart in
    elim c.if-may_start.branch [
      | goal.then-may_start+in_ok-push w ↦ rw (w.entries-is, w.in_ok-push.ensures.items)
          (more-starts c.state.result apart c.state.ensures c.loop-code.invariant
          (omega (arith, c.loop-code-test.true, c.CODES-code-end.ensures))
          (c.may_start.ensures.0 (search rules)))
      | goal.else-may_start w ↦ rw w.entries-is
          (same-starts c.state.result apart c.state.ensures c.loop-code.invariant
          (λ starts. false≢true (sym w.if-may_start.false ∙ c.may_start.ensures.1 starts)))
    ]
