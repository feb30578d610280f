-- Why fields are no row, and what reading them answers.
use Rattle.std.specs.Prelude.{◌≡◌, ◌≢◌, ◌⊎◌, ℕ, List, [], ◌∷◌, length, Result, MatchResult}
use Rattle.mdb_words.specs.Digits.{IsDecimal}
use Rattle.mdb_words.specs.declared.event.Event.{Event}
use Rattle.mdb_words.specs.declared.word.Line.TheVariants.{Controller, Peripheral}
use Rattle.mdb_words.specs.declared.row.RowFault.{RowFault}
use Rattle.mdb_words.specs.declared.row.RowFault.TheVariants.{FieldCount, BadTime, BadLine, BadValue}
use Rattle.mdb_words.specs.Row.{IsRow, break_letter, letter_of}

-- a field that is a row's letter
abbrev pub IsLetter : List ℕ → Type 0
IsLetter field =
    (field ≡ letter_of Controller ∷ []) ⊎ (field ≡ letter_of Peripheral ∷ [])
    ⊎ (field ≡ break_letter ∷ [])

-- Why fields are refused: the first of the four faults, in their order.
abbrev pub IsRefusal : List (List ℕ) → RowFault → Type 0
IsRefusal fields FieldCount = length fields ≢ 3
IsRefusal fields BadTime = (time letter value : List ℕ) × (fields ≡ time ∷ letter ∷ value ∷ [])
    × ((at : ℕ) → IsDecimal 18 time at → ⊥)
IsRefusal fields BadLine = (time letter value : List ℕ) × (fields ≡ time ∷ letter ∷ value ∷ [])
    × (at : ℕ) × IsDecimal 18 time at × (IsLetter letter → ⊥)
IsRefusal fields BadValue = (time letter value : List ℕ) × (fields ≡ time ∷ letter ∷ value ∷ [])
    × (at : ℕ) × IsDecimal 18 time at × IsLetter letter × ((event : Event) → IsRow fields event → ⊥)

-- what reading fields answers: the event of the row, or why they are none
abbrev pub Tells : Result Event RowFault → List (List ℕ) → Type 0
Tells read fields = MatchResult read (IsRow fields) (IsRefusal fields)
