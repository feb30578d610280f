-- The writer has a front of the text, and nothing else was written.
use Rattle.std.proofs.Common.{◌≡◌, ℕ, List, ◌++◌}
use Rattle.std.specs.Io.KnownBytes.{Appends}
use Rattle.mdb_writing.proofs.text.write_text.Given as goal

-- what is no longer in the rest was taken
abbrev pub invariant-loop : goal.invariant-loop
invariant-loop g l =
    (done : List ℕ) × (l.initial.rest ≡ done ++ l.rest)
    × Appends (g.W.Write.contents l.initial.writer) (g.W.Write.contents l.writer) done
