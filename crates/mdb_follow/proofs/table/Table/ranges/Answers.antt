-- What the sums may be: the join of the entries of the list that is seen.
use Rattle.mdb_follow.proofs.Words.{◌∙◌}
use Rattle.mdb_follow.proofs.Ways.{table-joined}
use Rattle.mdb_follow.proofs.table.Table.ranges.Goals as goal

pub returns-then-self-clause-exact : goal.returns-then-self-clause-exact
returns-then-self-clause-exact g c begins acts table =
    let is = c.as_slice.ensures ∙ rw c.if-self.true at c.self.view_is in
    table-joined g.P.Pair.code_of (g.P.Pair.machine begins) acts c.args.self.now
    c.join_all.result (λ entry rest same. c.join_all.ensures.joined entry rest (is ∙ same))
    table

pub returns-then-self-clause-within : goal.returns-then-self-clause-within
returns-then-self-clause-within g c limit fits =
    let is = c.as_slice.ensures ∙ rw c.if-self.true at c.self.view_is in
    c.join_all.ensures.within limit (rw is fits)

pub returns-else-self-clause-exact : goal.returns-else-self-clause-exact
returns-else-self-clause-exact g c begins acts table =
    let is = c.as_slice-else-self.ensures ∙ rw c.if-self.false at c.self.view_is in
    table-joined g.P.Pair.code_of (g.P.Pair.machine begins) acts c.args.self.now
    c.join_all-else-self.result
    (λ entry rest same. c.join_all-else-self.ensures.joined entry rest (is ∙ same)) table

pub returns-else-self-clause-within : goal.returns-else-self-clause-within
returns-else-self-clause-within g c limit fits =
    let is = c.as_slice-else-self.ensures ∙ rw c.if-self.false at c.self.view_is in
    c.join_all-else-self.ensures.within limit (rw is fits)
