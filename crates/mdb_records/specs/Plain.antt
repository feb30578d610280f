-- The record on the line at the front of a text.
use Rattle.std.specs.Prelude.{◌≡◌, ◌≤◌, ◌<◌, ◌==◌, ◌||◌, Bool, false, ℕ, List, [], ◌∷◌, ◌++◌, drop}
use Rattle.std.specs.Prelude.{length, ⊤, Some}
use Rattle.csv.specs.Machine.{next_record}
use Rattle.csv.specs.Reading.{default_config}
use Rattle.csv.specs.declared.parser.State.TheVariants.{StartRecord}
use Rattle.mdb_records.specs.declared.plain.Front.{Front}
use Rattle.mdb_records.specs.declared.plain.Front.TheVariants as front
use Rattle.mdb_records.specs.declared.plain.Meaning.{Meaning}
use Rattle.mdb_records.specs.declared.plain.Meaning.TheVariants as meaning

-- the bytes that mean more to csv than themselves: a comma, a quote, and either end of a line
abbrev pub is_special : ℕ → Bool
is_special c = (c == 44) || (c == 34) || (c == 13) || (c == 10)

-- what a byte at a place is to the record on the line at the front of a text
abbrev pub Means : ℕ → ℕ → Meaning → Type 0
Means c place meaning.Own = is_special c ≡ false
Means c place meaning.Comma = c ≡ 44
Means c place meaning.LineEnd = (c ≡ 10) × (0 < place)
Means c place meaning.Other = ⊤

-- a text whose first byte, if it has one, is ASCII, so that no byte order mark stands there
abbrev pub BeginsLow : List ℕ → Type 0
BeginsLow [] = ⊤
BeginsLow (c ∷ text) = c < 128

-- a line of so many bytes is what csv reads first, whatever comes after the text
abbrev pub HasFront : List ℕ → Front → List (List ℕ) → Type 0
HasFront text (front.Line count) fields = (count ≤ length text)
    × ((later : List ℕ) → next_record default_config StartRecord [] [] (text ++ later)
    ≡ Some (fields, StartRecord, drop count text ++ later))
HasFront text front.Unended fields = ⊤
HasFront text front.Other fields = ⊤
