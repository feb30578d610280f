-- The row before the one at an index is the last of those before it.
use Rattle.std.proofs.Common.{arith, ap, sym, ◌∙◌, ◌≡◌, ◌<◌, ◌+◌, ◌-◌, Some, length}
use Rattle.mdb_check.proofs.Following.{last_at}
use Rattle.mdb_check.proofs.heeding.row_before.Goals as goal

pub returns-else-index-eq0 : goal.returns-else-index-eq0
returns-else-index-eq0 c earlier last =
    let rows = c.args.rows.now in
    let within : c.args.index - 1 < length rows =
    omega (arith, c.requires, c.if-index-eq0.false) in
    let same : c.args.index - 1 + 1 ≡ c.args.index = omega (arith, c.if-index-eq0.false) in
    ap Some c.index-rows-index.is ∙ sym (rw same at
    (last_at earlier rows (c.args.index - 1) c.index-rows-index.result within))
