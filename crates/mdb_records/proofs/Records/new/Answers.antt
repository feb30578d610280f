-- The reader of lines is given all of the text up to the limit, so all records are to come.
use Rattle.mdb_records.proofs.Words.{◌≡◌, None, refl, option_map, strip_bom, lines_given, given_of}
use Rattle.mdb_records.proofs.LineFacts.{gives-below}
use Rattle.mdb_records.proofs.ReadingFacts.{new-over, new-to-come, new-within}
use Rattle.mdb_records.proofs.Records.new.Goals as goal

-- what the new reader of lines is given
given : (g : _) (c : goal.After-result-1 g) → lines_given g.R.Read.remaining c.new-2.result
    ≡ option_map strip_bom (given_of (g.R.Read.remaining c.args.reader) c.args.limit None)
given g c =
    let e = c.new-2.ensures in
    rw (
      e.begun,
      e.unread,
      e.source,
      c.new.ensures.inner,
      c.new.ensures.left,
      c.new.ensures.held,
      gives-below (given_of (g.R.Read.remaining c.args.reader) c.args.limit None),
    ) refl

pub returns-clause-records : goal.returns-clause-records
returns-clause-records g c =
    new-to-come g.R.Read.remaining _ c.new-2.result c.args.limit refl
    (g.R.Read.remaining c.args.reader) refl (given g c)

pub returns-clause-over : goal.returns-clause-over
returns-clause-over g c =
    new-over g.R.Read.remaining _ c.new-2.result c.args.limit refl
    (g.R.Read.remaining c.args.reader) refl (given g c)

pub returns-clause-within : goal.returns-clause-within
returns-clause-within g c =
    new-within g.R.Read.remaining _ c.new-2.result c.args.limit refl
    (g.R.Read.remaining c.args.reader) (given g c)
