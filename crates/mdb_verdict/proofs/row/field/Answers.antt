-- There is a field at each index below the number of fields.
use Rattle.std.proofs.Common.{sym}
use Rattle.mdb_verdict.proofs.Fields.{field_some}
use Rattle.mdb_verdict.proofs.row.field.Goals as goal

pub unreachable-requires : goal.unreachable-requires
unreachable-requires c = field_some _ c.args.i c.requires (sym c.in-None.ensures)
