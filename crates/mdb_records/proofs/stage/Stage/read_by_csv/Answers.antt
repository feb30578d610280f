-- csv trims nothing and is ready, so what it reads is the next record of its text.
use Rattle.mdb_records.proofs.Words.{ap, fields_of, reader_in}
use Rattle.mdb_records.proofs.ReadingFacts.{csv-reads, set-up-ready}
use Rattle.mdb_records.proofs.stage.Stage.read_by_csv.Goals as goal

pub returns-in-Ok-clause-reads : goal.returns-in-Ok-clause-reads
returns-in-Ok-clause-reads g c =
    let set_up = c.requires.set_up c.in-Csv.reader (ap reader_in c.in-Csv.is) in
    rw c.in-Csv.is (csv-reads g.R.Read.remaining c.in-Csv.reader c.read_byte_record.new.self
    c.in-Csv.field-1 c.in-Ok.found (fields_of c.read_byte_record.new.row)
    (c.in-Ok.ensures.reads set_up.untrimmed (set-up-ready c.in-Csv.reader set_up)))
