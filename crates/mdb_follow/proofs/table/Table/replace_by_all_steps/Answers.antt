-- The table after an act: one list is read and the other is written.
use Rattle.mdb_follow.proofs.Words.{◌+◌, ◌^◌, ◌∷◌, ◌∙◌, arith}
use Rattle.mdb_follow.proofs.Limits.{table-within-weaker}
use Rattle.mdb_follow.proofs.Listed.{nil-told, some-told}
use Rattle.mdb_follow.proofs.Ways.{nothing-arrives, table-some}
use Rattle.mdb_follow.proofs.table.Table.replace_by_all_steps.Goals as goal

pub returns-then-is_empty-clause-none : goal.returns-then-is_empty-clause-none
returns-then-is_empty-clause-none g c begins acts stands table =
    let is = c.as_slice.ensures ∙ rw c.if-self.true at c.self.view_is in
    nothing-arrives g.P.Pair.code_of (g.P.Pair.machine begins) (c.args.act.now ∷ acts)
    c.fill_all.new.into (c.fill_all.ensures.table begins acts stands (rw is table))
    (nil-told _ c.is_empty.result c.is_empty.ensures c.if-is_empty.true)

pub returns-then-is_empty-clause-within : goal.returns-then-is_empty-clause-within
returns-then-is_empty-clause-within g c limit all =
    let is = rw c.if-self.true at c.self.view_is in
    rw (c.if-self.true, is)
    (table-within-weaker limit (limit + 2 ^ 32) c.args.self.now (omega arith) all)

pub returns-else-is_empty-clause-within : goal.returns-else-is_empty-clause-within
returns-else-is_empty-clause-within g c limit all =
    let is = c.as_slice.ensures ∙ rw c.if-self.true at c.self.view_is in
    c.fill_all.ensures.within limit (rw is all)

pub returns-else-is_empty-clause-table : goal.returns-else-is_empty-clause-table
returns-else-is_empty-clause-table g c begins acts stands table =
    let is = c.as_slice.ensures ∙ rw c.if-self.true at c.self.view_is in
    table-some g.P.Pair.code_of (g.P.Pair.machine begins) (c.args.act.now ∷ acts)
    c.fill_all.new.into (c.fill_all.ensures.table begins acts stands (rw is table))
    (some-told _ c.is_empty.result c.is_empty.ensures c.if-is_empty.false)

pub returns-then-is_empty-2-clause-none : goal.returns-then-is_empty-2-clause-none
returns-then-is_empty-2-clause-none g c begins acts stands table =
    let is = c.as_slice-else-self.ensures ∙ rw c.if-self.false at c.self.view_is in
    nothing-arrives g.P.Pair.code_of (g.P.Pair.machine begins) (c.args.act.now ∷ acts)
    c.fill_all-else-self.new.into
    (c.fill_all-else-self.ensures.table begins acts stands (rw is table))
    (nil-told _ c.is_empty-else-self.result c.is_empty-else-self.ensures c.if-is_empty-2.true)

pub returns-then-is_empty-2-clause-within : goal.returns-then-is_empty-2-clause-within
returns-then-is_empty-2-clause-within g c limit all =
    let is = rw c.if-self.false at c.self.view_is in
    rw (c.if-self.false, is)
    (table-within-weaker limit (limit + 2 ^ 32) c.args.self.now (omega arith) all)

pub returns-else-is_empty-2-clause-within : goal.returns-else-is_empty-2-clause-within
returns-else-is_empty-2-clause-within g c limit all =
    let is = c.as_slice-else-self.ensures ∙ rw c.if-self.false at c.self.view_is in
    c.fill_all-else-self.ensures.within limit (rw is all)

pub returns-else-is_empty-2-clause-table : goal.returns-else-is_empty-2-clause-table
returns-else-is_empty-2-clause-table g c begins acts stands table =
    let is = c.as_slice-else-self.ensures ∙ rw c.if-self.false at c.self.view_is in
    table-some g.P.Pair.code_of (g.P.Pair.machine begins) (c.args.act.now ∷ acts)
    c.fill_all-else-self.new.into
    (c.fill_all-else-self.ensures.table begins acts stands (rw is table))
    (some-told _ c.is_empty-else-self.result c.is_empty-else-self.ensures c.if-is_empty-2.false)
