-- What reading and writing rows answer: one event or one refusal, and the row as it is written.
use Rattle.mdb_words.proofs.Words.{◌≡◌, ◌≢◌, ℕ, ◌/◌, ◌%◌, ◌^◌, true, All, ◌<◌, ◌≤◌, List, [], ◌∷◌, length, get_or, map, inl, inr, refl, ap, arith, Option, None, Some, Result, Ok, Err, IfErr, ok_or, nat_tests, All-nil, All-cons, All-weaker, IsAsciiDigit, decimal, digit_glyph, IsDecimal, hex_word, IsFieldByte, row_fields}
use Rattle.std.proofs.Common.{IfSome, IfNone}
use Rattle.std.specs.Borrow.{Bor}
use Rattle.std.proofs.lemmas.Grind.{common_steps}
use Rattle.mdb_words.proofs.Numerals.{IsDecimal-decimal, IsHexWord-hex_word, decimal_digits}
use Rattle.mdb_words.specs.Event.{start_of}
use Rattle.mdb_words.specs.Row.{IsRow, break_letter, letter_of}
use Rattle.mdb_words.specs.Refusals.{IsLetter, IsRefusal, Tells}
use Rattle.mdb_words.specs.declared.event.Event.{Event}
use Rattle.mdb_words.specs.declared.event.Event.TheVariants.{Word, Break}
use Rattle.mdb_words.specs.declared.word.Line.{Line}
use Rattle.mdb_words.specs.declared.word.Line.TheVariants.{Controller, Peripheral}
use Rattle.mdb_words.specs.declared.row.RowFault.{RowFault}
use Rattle.mdb_words.specs.declared.row.RowFault.TheVariants.{BadLine, BadTime}

-- one event, and no refusal

pub row_one : (fields : List (List ℕ)) (a b : Event) → IsRow fields a → IsRow fields b → a ≡ b
row_one fields a b g h = grind (arith, common_steps)

pub row_not_refused : (fields : List (List ℕ)) (event : Event) (fault : RowFault)
    → IsRow fields event → IsRefusal fields fault → ⊥
row_not_refused fields event fault h r = grind (arith, common_steps)

-- what reading answers

pub only_from : (fields : List (List ℕ)) (read : Result Event RowFault) → Tells read fields
    → (event : Event) → IsRow fields event → read ≡ Ok event
only_from fields (Ok found) told event h = ap Ok (row_one fields found event told h)
only_from fields (Err fault) told event h = absurd (row_not_refused fields event fault h told)

-- a field that tells no line and no break
no_letter : (letter : List ℕ) → ((line : Line) → letter ≢ letter_of line ∷ [])
    → letter ≢ break_letter ∷ [] → IsLetter letter → ⊥
no_letter letter no_line no_break (inl is) = no_line Controller is
no_letter letter no_line no_break (inr (inl is)) = no_line Peripheral is
no_letter letter no_line no_break (inr (inr is)) = no_break is

pub refuses_letter : (letter value : List ℕ) (at : ℕ)
    → ((line : Line) → letter ≢ letter_of line ∷ []) → letter ≢ break_letter ∷ [] → (time : List ℕ)
    → IsDecimal 18 time at → IsRefusal (time ∷ letter ∷ value ∷ []) BadLine
refuses_letter letter value at no_line no_break time decimal =
    (time, letter, value, refl, at, decimal, no_letter letter no_line no_break)

-- the fields of a record, behind references

abbrev texts : List (Bor (List ℕ)) → List (List ℕ)
texts fields = map (λ f. f.now) fields

three_fields : (fields : List (Bor (List ℕ))) (none : Bor (List ℕ)) → 3 ≤ length fields
    → length fields < 4
    → texts fields
    ≡ (get_or fields 0 none).now ∷ (get_or fields 1 none).now ∷ (get_or fields 2 none).now ∷ []
three_fields (time ∷ letter ∷ value ∷ []) none some few = refl
three_fields fields none some few = absurd (omega arith)

pub refuses_time : (fields : List (Bor (List ℕ))) (none : Bor (List ℕ)) (read : Option ℕ)
    (fault : RowFault) → 3 ≤ length fields → length fields < 4
    → ◌≡◌ {A = Result ℕ RowFault} (Err fault) (ok_or read BadTime)
    → IfNone read ((n : ℕ) → IsDecimal 18 (get_or fields 0 none).now n → ⊥)
    → IsRefusal (texts fields) fault
refuses_time fields none None fault some few is bad =
    let same : fault ≡ BadTime = cc in
    rw same (_, _, _, three_fields fields none some few, bad)
refuses_time fields none (Some n) fault some few is bad = absurd (cc)

pub tells_fields : (fields : List (Bor (List ℕ))) (none : Bor (List ℕ)) (read : Option ℕ) (at : ℕ)
    (told : Result Event RowFault) → 3 ≤ length fields → length fields < 4
    → ◌≡◌ {A = Result ℕ RowFault} (Ok at) (ok_or read BadTime)
    → IfSome read (IsDecimal 18 (get_or fields 0 none).now)
    → ((time : List ℕ) → IsDecimal 18 time at
    → Tells told (time ∷ (get_or fields 1 none).now ∷ (get_or fields 2 none).now ∷ []))
    → Tells told (texts fields)
tells_fields fields none None at told some few is decimal rest = absurd (cc)
tells_fields fields none (Some n) at told some few is decimal rest =
    let same : n ≡ at = cc in
    rw (three_fields fields none some few) (rest (get_or fields 0 none).now (rw same at decimal))

pub err_from : (fields : List (List ℕ)) (read : Result Event RowFault) → Tells read fields
    → IfErr read (IsRefusal fields)
err_from fields (Ok found) told = tt
err_from fields (Err fault) told = told

-- the row as it is written

digit_byte : (n : ℕ) → n < 2 ^ 64 → All IsFieldByte (decimal n)
digit_byte n small =
    All-weaker IsAsciiDigit IsFieldByte (λ c h. inl h) (decimal n) (decimal_digits n small)

letter_byte : (line : Line) → IsFieldByte (letter_of line)
letter_byte Controller = inr (omega arith, omega arith)
letter_byte Peripheral = inr (omega arith, omega arith)

three_bytes : {A : Type 0} (P : A → Type 0) (a b c : A) → P a → P b → P c → All P (a ∷ b ∷ c ∷ [])
three_bytes P a b c p q r =
    All-cons P a (b ∷ c ∷ []) p (All-cons P b (c ∷ []) q (All-cons P c [] r (All-nil P)))

one_byte : (c : ℕ) → IsFieldByte c → All IsFieldByte (c ∷ [])
one_byte c h = All-cons IsFieldByte c [] h (All-nil IsFieldByte)

glyph_byte : (d : ℕ) → d < 16 → IsFieldByte (digit_glyph true d)
glyph_byte d h = grind (arith, nat_tests)

pub hex_bytes : (P : ℕ → Type 0) → ((d : ℕ) → d < 16 → P (digit_glyph true d)) → (word : ℕ)
    → word < 512 → All P (hex_word word)
hex_bytes P glyph word small =
    three_bytes P (digit_glyph true (word / 256)) (digit_glyph true (word / 16 % 16))
    (digit_glyph true (word % 16)) (glyph _ (omega arith)) (glyph _ (omega arith))
    (glyph _ (omega arith))

-- a written row is the event's, and no byte of a field parts or quotes
abbrev pub IsWritten : Event → Type 0
IsWritten event = IsRow (row_fields event) event × All (All IsFieldByte) (row_fields event)

written_word : (at : ℕ) (line : Line) (word : ℕ) → at < 10 ^ 18 → word < 512
    → IsWritten (Word at line word)
written_word at line word early small = (
  (
    decimal at,
    hex_word word,
    refl,
    IsDecimal-decimal 18 at (omega arith) early (omega arith),
    IsHexWord-hex_word word small,
  ),
  three_bytes (All IsFieldByte) (decimal at) (letter_of line ∷ []) (hex_word word)
      (digit_byte at (omega arith)) (one_byte (letter_of line) (letter_byte line))
      (hex_bytes IsFieldByte glyph_byte word small),
)

written_break : (at span : ℕ) → at < 10 ^ 18 → span < 10 ^ 9 → IsWritten (Break at span)
written_break at span early short = (
  (
    decimal at,
    decimal span,
    refl,
    IsDecimal-decimal 18 at (omega arith) early (omega arith),
    IsDecimal-decimal 9 span (omega arith) short (omega arith),
  ),
  three_bytes (All IsFieldByte) (decimal at) (break_letter ∷ []) (decimal span)
      (digit_byte at (omega arith)) (one_byte break_letter (inr (omega arith, omega arith)))
      (digit_byte span (omega arith)),
)

pub word_written : (event : Event) (start at : ℕ) (line : Line) (word : ℕ)
    → event ≡ Word at line word → start ≡ start_of event → start < 10 ^ 18 → word < 512
    → IsWritten event
word_written event start at line word is from early small =
    let same : start_of event ≡ at = ap start_of is in
    rw is (written_word at line word (omega arith) small)

pub break_written : (event : Event) (start at span : ℕ) → event ≡ Break at span
    → start ≡ start_of event → start < 10 ^ 18 → span < 10 ^ 9 → IsWritten event
break_written event start at span is from early short =
    let same : start_of event ≡ at = ap start_of is in
    rw is (written_break at span (omega arith) short)
