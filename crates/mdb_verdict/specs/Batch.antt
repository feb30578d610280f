-- What the reading of a batch of rows comes to.
--
-- `Is` says which fields are which row, `Refuses` why they are none.
use Rattle.std.specs.Prelude.{◌≡◌, ◌+◌, ◌<◌, ◌≤◌, ◌++◌, ℕ, List, [], ◌∷◌, length, ⊤, Option, Some, None}
use Rattle.mdb_words.specs.declared.row.RowFault.{RowFault}
use Rattle.mdb_records.specs.declared.ReadFault.{ReadFault}
use Rattle.mdb_records.specs.declared.Records.{Records}
use Rattle.mdb_records.specs.ToCome.{IsOverLimit, ToCome}
use Rattle.mdb_verdict.specs.Verdict.{AreAll}
use Rattle.mdb_verdict.specs.declared.batch.Next.{Next}
use Rattle.mdb_verdict.specs.declared.batch.Next.TheVariants.{More, End, BadRow, Failed}

-- After the rows of a batch comes the rest of the records: all of it is to come, or there is none,
-- or it begins with a record that is no row. Of a refused read nothing is said.
abbrev pub ComesAfter : {R : Type 0} → (List (List ℕ) → RowFault → Type 0)
    → (R → Option (List ℕ)) → Records R → List (List (List ℕ)) → Next → Type 0
ComesAfter Refuses remaining records rest More = ToCome remaining records rest
ComesAfter Refuses remaining records rest End = rest ≡ []
ComesAfter Refuses remaining records rest (BadRow fault) =
    (fields : List (List ℕ)) × (after : List (List (List ℕ))) × (rest ≡ fields ∷ after)
    × Refuses fields fault
ComesAfter Refuses remaining records rest (Failed fault) = ⊤

-- The first of the records are the rows of a batch, and this is what comes after them.
pub record HasRead {R Row : Type 0} (Is : List (List ℕ) → Row → Type 0)
    (Refuses : List (List ℕ) → RowFault → Type 0) (remaining : R → Option (List ℕ))
    (all : List (List (List ℕ))) (records : Records R) (rows : List Row) (next : Next)
    : Type 0 where
  pub done : List (List (List ℕ))
  pub rest : List (List (List ℕ))
  pub split : all ≡ done ++ rest
  pub told : AreAll Is done rows
  pub after : ComesAfter Refuses remaining records rest next

-- the text goes on past its limit, and no end was told
abbrev pub BatchGoesOnOver : {R : Type 0} → (R → Option (List ℕ)) → Records R → Next → Type 0
BatchGoesOnOver remaining records More = IsOverLimit remaining records
BatchGoesOnOver remaining records End = ⊥
BatchGoesOnOver remaining records (BadRow fault) = ⊤
BatchGoesOnOver remaining records (Failed fault) = ⊤

-- the fault that was met is told, and no other
abbrev pub IsMet : Next → Option ReadFault → Type 0
IsMet (Failed fault) met = met ≡ Some fault
IsMet _ met = met ≡ None

-- no more records were found than these rows, and the one that is no row
abbrev pub FindsAtMost : Next → ℕ → ℕ → Type 0
FindsAtMost (BadRow fault) most found = found ≤ most + 1
FindsAtMost _ most found = found ≤ most

-- the rows have room, and so has a row more where one was asked for; while more is to come there is
-- a row
abbrev pub FitsIn : {Row : Type 0} → ℕ → List Row → Next → Type 0
FitsIn room rows More = (0 < length rows) × (length rows ≤ room)
FitsIn room rows _ = length rows < room
