-- The join of all cells is within the limit of each.
use Rattle.mdb_follow.proofs.Words.{take_all, All-head, All-tail, ℕ, Cell, IsCellWithin}
use Rattle.mdb_follow.proofs.Limits.{joined-within}
use Rattle.mdb_follow.proofs.entries.join_all.Goals as goal

pub returns-clause-within : goal.returns-clause-within
returns-clause-within c limit fits =
    let entry : ℕ × Cell = c.in-Some.field-0-0.now in
    let rest = c.in-Some.rest.now in
    let Fits : ℕ × Cell → Type 0 = λ e. IsCellWithin limit e.1 in
    let all = rw c.in-Some.ensures.cases.0 at fits in
    rw c.loop-cell.invariant
    (rw (take_all c.loop-cell.cell-index rest c.loop-cell-test.false)
    (joined-within limit entry.1 rest (All-head Fits entry rest all)
    (All-tail Fits entry rest all)))
