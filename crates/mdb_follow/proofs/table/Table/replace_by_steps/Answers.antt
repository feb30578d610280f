-- The table after an act: one list is read and the other is written, or one entry is led alone.
use Rattle.mdb_follow.proofs.Words.{◌+◌, ◌^◌, ◌∷◌, ◌∙◌, arith}
use Rattle.mdb_follow.proofs.Limits.{table-within-weaker}
use Rattle.mdb_follow.proofs.Listed.{nil-told, some-told}
use Rattle.mdb_follow.proofs.Ways.{nothing-arrives, table-some}
use Rattle.mdb_follow.proofs.table.Table.replace_by_steps.Goals as goal

pub returns-then-is_empty-clause-none : goal.returns-then-is_empty-clause-none
returns-then-is_empty-clause-none g c begins acts stands table =
    let is = c.as_slice.ensures ∙ rw c.if-self.true at c.self.view_is in
    nothing-arrives g.P.Pair.code_of (g.P.Pair.machine begins) (c.args.act.now ∷ acts)
    c.fill.new.into (c.fill.ensures.table begins acts stands (rw is table))
    (nil-told _ c.is_empty.result c.is_empty.ensures c.if-is_empty.true)

pub returns-then-is_empty-clause-within : goal.returns-then-is_empty-clause-within
returns-then-is_empty-clause-within g c limit all =
    let is = rw c.if-self.true at c.self.view_is in
    rw (c.if-self.true, is)
    (table-within-weaker limit (limit + 2 ^ 32) c.args.self.now (omega arith) all)

pub returns-else-is_empty-clause-within : goal.returns-else-is_empty-clause-within
returns-else-is_empty-clause-within g c limit all =
    let is = c.as_slice.ensures ∙ rw c.if-self.true at c.self.view_is in
    c.fill.ensures.within limit (rw is all)

pub returns-else-is_empty-clause-table : goal.returns-else-is_empty-clause-table
returns-else-is_empty-clause-table g c begins acts stands table =
    let is = c.as_slice.ensures ∙ rw c.if-self.true at c.self.view_is in
    table-some g.P.Pair.code_of (g.P.Pair.machine begins) (c.args.act.now ∷ acts)
    c.fill.new.into (c.fill.ensures.table begins acts stands (rw is table))
    (some-told _ c.is_empty.result c.is_empty.ensures c.if-is_empty.false)

pub returns-then-is_empty-2-clause-none : goal.returns-then-is_empty-2-clause-none
returns-then-is_empty-2-clause-none g c begins acts stands table =
    let is = c.as_slice-else-self.ensures ∙ rw c.if-self.false at c.self.view_is in
    nothing-arrives g.P.Pair.code_of (g.P.Pair.machine begins) (c.args.act.now ∷ acts)
    c.fill-else-self.new.into (c.fill-else-self.ensures.table begins acts stands (rw is table))
    (nil-told _ c.is_empty-else-self.result c.is_empty-else-self.ensures c.if-is_empty-2.true)

pub returns-then-is_empty-2-clause-within : goal.returns-then-is_empty-2-clause-within
returns-then-is_empty-2-clause-within g c limit all =
    let is = rw c.if-self.false at c.self.view_is in
    rw (c.if-self.false, is)
    (table-within-weaker limit (limit + 2 ^ 32) c.args.self.now (omega arith) all)

pub returns-else-is_empty-2-clause-within : goal.returns-else-is_empty-2-clause-within
returns-else-is_empty-2-clause-within g c limit all =
    let is = c.as_slice-else-self.ensures ∙ rw c.if-self.false at c.self.view_is in
    c.fill-else-self.ensures.within limit (rw is all)

pub returns-else-is_empty-2-clause-table : goal.returns-else-is_empty-2-clause-table
returns-else-is_empty-2-clause-table g c begins acts stands table =
    let is = c.as_slice-else-self.ensures ∙ rw c.if-self.false at c.self.view_is in
    table-some g.P.Pair.code_of (g.P.Pair.machine begins) (c.args.act.now ∷ acts)
    c.fill-else-self.new.into (c.fill-else-self.ensures.table begins acts stands (rw is table))
    (some-told _ c.is_empty-else-self.result c.is_empty-else-self.ensures c.if-is_empty-2.false)

pub returns-then-len-eq1-clause-none : goal.returns-then-len-eq1-clause-none
returns-then-len-eq1-clause-none g c =
    rw (rw c.if-self.true at c.self.view_is) at c.lead_alone.ensures.none

pub returns-then-len-eq1-clause-within : goal.returns-then-len-eq1-clause-within
returns-then-len-eq1-clause-within g c limit all =
    rw c.if-self.true
    (c.lead_alone.ensures.within limit (rw (rw c.if-self.true at c.self.view_is) all))

pub returns-then-len-eq1-2-clause-none : goal.returns-then-len-eq1-2-clause-none
returns-then-len-eq1-2-clause-none g c =
    rw (rw c.if-self.false at c.self.view_is) at c.lead_alone-then-len-eq1-2.ensures.none

pub returns-then-len-eq1-2-clause-within : goal.returns-then-len-eq1-2-clause-within
returns-then-len-eq1-2-clause-within g c limit all =
    let is = rw c.if-self.false at c.self.view_is in
    rw c.if-self.false (c.lead_alone-then-len-eq1-2.ensures.within limit (rw is all))
