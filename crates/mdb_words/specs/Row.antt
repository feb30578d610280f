-- The rows of a transcript: which fields tell which event.
use Rattle.std.specs.Prelude.{◌≡◌, ℕ, List, [], ◌∷◌, length}
use Rattle.mdb_words.specs.Digits.{IsDecimal, IsHexWord}
use Rattle.mdb_words.specs.declared.event.Event.{Event}
use Rattle.mdb_words.specs.declared.event.Event.TheVariants.{Word, Break}
use Rattle.mdb_words.specs.declared.word.Line.{Line}
use Rattle.mdb_words.specs.declared.word.Line.TheVariants.{Controller, Peripheral}

-- the letter of a line: `M` for the controller's, `S` for the peripherals'
abbrev pub letter_of : Line → ℕ
letter_of Controller = 77
letter_of Peripheral = 83

-- the letter of a break, `B`
abbrev pub break_letter : ℕ
break_letter = 66

-- the fields of a row: the start in digits, the letter, and the word or the break's length
abbrev pub IsRow : List (List ℕ) → Event → Type 0
IsRow fields (Word at line word) =
    (time value : List ℕ) × (fields ≡ time ∷ (letter_of line ∷ []) ∷ value ∷ [])
    × IsDecimal 18 time at × IsHexWord value word
IsRow fields (Break at length) =
    (time value : List ℕ) × (fields ≡ time ∷ (break_letter ∷ []) ∷ value ∷ [])
    × IsDecimal 18 time at × IsDecimal 9 value length
