-- The entries of the states in which a machine may start, code by code.
use Rattle.mdb_follow.proofs.Words.{rules, ◌≡◌, ◌∙◌, arith, refl, sym, false≢true}
use Rattle.mdb_follow.specs.declared.cell.TheConstants.Cell.{NOTHING}
use Rattle.mdb_follow.proofs.Starts.{more-starts, same-starts, table-starts}
use Rattle.mdb_follow.proofs.table.add_starts.Goals as goal
use Rattle.mdb_follow.proofs.table.add_starts.Goals.{else-may_start, then-may_start}

pub loop-code-preserved : goal.loop-code-preserved
loop-code-preserved g c =
    let p = g.P.Pair in
    let machine = p.machine c.args.begins.now in
    elim c.if-may_start.branch [
      | then-may_start w ↦ rw w.entries-is (more-starts g.row.N p.code_of machine NOTHING
          c.loop-code.code c.loop-code.entries _ c.state.result c.loop-code-test.true
          c.state.ensures (c.may_start.ensures.0 (search rules)) refl w.push.ensures
          c.loop-code.invariant)
      | else-may_start w ↦ rw w.entries-is (same-starts g.row.N p.code_of machine NOTHING
          c.loop-code.code c.loop-code.entries c.state.result g.met.P.Pair.apart c.state.ensures
          (λ starts. false≢true (sym w.if-may_start.false ∙ c.may_start.ensures.1 starts))
          c.loop-code.invariant)
    ]

pub returns-clause-table : goal.returns-clause-table
returns-clause-table g c =
    let p = g.P.Pair in
    let all : c.loop-code.code ≡ g.row.N = omega
    (arith, c.loop-code-test.false, c.loop-code.auto.code-end) in
    table-starts g.row.N p.code_of (p.machine c.args.begins.now) NOTHING c.loop-code.entries refl
    (λ state. rw c.requires.size (g.met.P.Pair.below state))
    (g.met.P.Pair.some_start c.args.begins.now) (rw all at c.loop-code.invariant)
