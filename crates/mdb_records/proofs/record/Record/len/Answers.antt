-- A line has as many fields as places where they end.
use Rattle.mdb_records.proofs.Words.{sym}
use Rattle.mdb_records.proofs.PartFacts.{length-parted}
use Rattle.mdb_records.proofs.record.Record.len.Goals as goal

pub returns-in-Line : goal.returns-in-Line
returns-in-Line c = rw c.in-Line.is (sym (length-parted 0 c.in-Line.ends.now c.in-Line.field-0.now))
