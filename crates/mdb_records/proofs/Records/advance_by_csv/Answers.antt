-- csv reads the next record to come. A text over the limit always has a next one.
use Rattle.mdb_records.proofs.Records.advance_by_csv.Goals as goal
use Rattle.mdb_records.proofs.ReadingFacts.{AreBytes-fields, goes-on, over-goes-on}

pub read_by_csv-requires-clause-set_up : goal.read_by_csv-requires-clause-set_up
read_by_csv-requires-clause-set_up g c = c.args.self.now.set_up c.requires.going

pub returns-in-Ok-clause-next : goal.returns-in-Ok-clause-next
returns-in-Ok-clause-next g c = λ rows h.
    goes-on g.R.Read.remaining c.args.self.now _ c.in-Ok.found rows
    (rw (c.in-Ok.ensures.fields _) c.in-Ok.ensures.reads) h.going
    (rw (c.in-Ok.ensures.fields _) (AreBytes-fields _ _ c.as_slice.ensures c.see_bytes.ensures)) h

pub returns-in-Ok-clause-endless : goal.returns-in-Ok-clause-endless
returns-in-Ok-clause-endless g c = λ h.
    over-goes-on g.R.Read.remaining c.args.self.now _ c.in-Ok.found
    (rw (c.in-Ok.ensures.fields _) c.in-Ok.ensures.reads) h.going
    (rw (c.in-Ok.ensures.fields _) (AreBytes-fields _ _ c.as_slice.ensures c.see_bytes.ensures)) h
