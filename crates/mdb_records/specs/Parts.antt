-- The parts of a line, and where they end.
use Rattle.std.specs.Prelude.{◌≤◌, ◌<◌, ◌+◌, ◌-◌, ℕ, zero, suc, List, [], ◌∷◌, take, drop, get_or}
use Rattle.std.specs.Prelude.{length}
use Rattle.mdb_records.specs.declared.record.Fields.{Fields}
use Rattle.mdb_records.specs.declared.record.Fields.TheVariants.{Csv, Line}

-- the parts of a text that end at these places, the first from a start on, with one byte between
-- each and the next
unfoldable pub parted : ℕ → List ℕ → List ℕ → List (List ℕ)
parted start [] text = []
parted start (end ∷ ends) text = take (end - start) (drop start text) ∷ parted (end + 1) ends text

-- where the part at a place begins
abbrev pub start_at : ℕ → List ℕ → ℕ → ℕ
start_at start ends zero = start
start_at start ends (suc place) = get_or ends place 0 + 1

-- each part that ends at these places ends no sooner than it begins, and within so many bytes
abbrev pub AreWithin : List ℕ → ℕ → Type 0
AreWithin ends size = (place : ℕ) → place < length ends
    → (start_at 0 ends place ≤ get_or ends place 0) × (get_or ends place 0 < size)

-- the line that the fields stand in, and where they end in it; none where csv has them
abbrev pub line_in : Fields → List ℕ
line_in (Line text ends) = text.now
line_in (Csv row) = []

abbrev pub ends_in : Fields → List ℕ
ends_in (Line text ends) = ends.now
ends_in (Csv row) = []
