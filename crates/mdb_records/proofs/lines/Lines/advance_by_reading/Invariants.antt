-- Further reads change nothing of what is given, so a line may still be found in it.
use Rattle.mdb_records.proofs.Words.{Keeps, lines_given, ◌≡◌, []}
use Rattle.mdb_records.proofs.lines.Lines.advance_by_reading.Given as goal

-- nothing was taken so far, and no part of a line was found
abbrev pub invariant-reads : goal.invariant-reads
invariant-reads g l =
    Keeps (lines_given g.R.Read.remaining l.fn.self) (lines_given g.R.Read.remaining l.self)
    × (l.ends.items ≡ [])
