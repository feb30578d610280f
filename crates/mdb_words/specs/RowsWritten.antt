-- Rows as they are written.
use Rattle.std.specs.Prelude.{◌⊎◌, ℕ, List, [], ◌∷◌, ◌++◌, length, ◌/◌, ◌%◌, true}
use Rattle.std.specs.Char.{IsAsciiDigit, IsAsciiUppercase}
use Rattle.std.specs.Fmt.{decimal, digit_glyph}
use Rattle.mdb_words.specs.declared.event.Event.{Event}
use Rattle.mdb_words.specs.declared.event.Event.TheVariants.{Word, Break}
use Rattle.mdb_words.specs.Row.{break_letter, letter_of}

-- fields put end to end, with a comma (44) between neighbours
abbrev pub joined_by_commas : List (List ℕ) → List ℕ
joined_by_commas [] = []
joined_by_commas (field ∷ []) = field
joined_by_commas (field ∷ next ∷ fields) = field ++ 44 ∷ joined_by_commas (next ∷ fields)

-- a byte of a written field, which is never a comma, a quote or a line end
abbrev pub IsFieldByte : ℕ → Type 0
IsFieldByte c = IsAsciiDigit c ⊎ IsAsciiUppercase c

-- a word in three upper case hexadecimal digits
abbrev pub hex_word : ℕ → List ℕ
hex_word word =
    digit_glyph true (word / 256) ∷ digit_glyph true (word / 16 % 16)
    ∷ digit_glyph true (word % 16) ∷ []

-- the fields as they are written: decimals without leading zeros
abbrev pub row_fields : Event → List (List ℕ)
row_fields (Word at line word) = decimal at ∷ (letter_of line ∷ []) ∷ hex_word word ∷ []
row_fields (Break at length) = decimal at ∷ (break_letter ∷ []) ∷ decimal length ∷ []
