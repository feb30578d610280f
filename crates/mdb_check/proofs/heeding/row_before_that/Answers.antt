-- The row before the one before an index is the last but one of those before it.
use Rattle.std.proofs.Common.{arith, sym, ◌∙◌, ◌≡◌, ◌<◌, ◌+◌, ◌-◌, length}
use Rattle.mdb_check.proofs.Following.{before_at}
use Rattle.mdb_check.proofs.heeding.row_before_that.Goals as goal

pub returns-else-index-eq0 : goal.returns-else-index-eq0
returns-else-index-eq0 c front last earlier =
    let rows = c.args.rows.now in
    let within : c.args.index - 1 < length rows =
    omega (arith, c.requires, c.if-index-eq0.false) in
    let same : c.args.index - 1 + 1 ≡ c.args.index = omega (arith, c.if-index-eq0.false) in
    c.row_before.ensures front last
    ∙ sym (rw same at (before_at front rows (c.args.index - 1) within))
