-- The last record stands in a line as its parts, and elsewhere as csv read it.
use Rattle.mdb_records.proofs.Words.{refl}
use Rattle.mdb_records.proofs.ReadingFacts.{fields-by-csv}
use Rattle.mdb_records.proofs.Records.row.Goals as goal
use Rattle.mdb_records.proofs.Records.row.Goals.{in-Lines, in_default}

pub returns : goal.returns
returns g c = elim c.match-self.branch [
  | in-Lines w ↦ rw (w.fields-is, w.in-Lines.is, w.line.ensures, w.as_slice.ensures.value) refl
  | in_default w ↦
      rw w.fields-is (fields-by-csv c.args.self.now.stage c.args.self.now.ends.items
      c.args.self.now.row w.in_default.not-Lines)
]
