-- How many bytes the text of an explanation has at most.
use Rattle.mdb_explain.proofs.Words.{All, All-head, All-tail, AreRows, Event, IsDecimal-lt, IsRow, List, Mark, ROWS_MAX, [], arith, break_letter, dash, decimal, explanation_text, flat_map, hex_word, length, length-append, letter_of, map, mark_fields, mark_letter, record_line, row_fields, ℕ, ◌*◌, ◌++◌, ◌+◌, ◌<◌, ◌^◌, ◌∷◌, ◌≡◌, ◌≤◌}
use Rattle.std.proofs.lemmas.Fmt.{length-decimal-le}
use Rattle.mdb_words.specs.declared.event.Event.TheVariants.{Word, Break}

-- the line of three fields, of which the second is a letter: with it two commas and a line feed
line_length : (number value : List ℕ) (letter : ℕ)
    → length (record_line (number ∷ (letter ∷ []) ∷ value ∷ []))
    ≡ length number + length value + 4
line_length number value letter =
    let whole = length-append (number ++ 44 ∷ letter ∷ 44 ∷ value) (10 ∷ []) in
    let fields = length-append number (44 ∷ letter ∷ 44 ∷ value) in
    omega (arith, whole, fields)

-- the lines of a mark and of a row
mark_short : (mark : ℕ × Mark) → mark.0 ≤ ROWS_MAX → length (record_line (mark_fields mark)) ≤ 14
mark_short mark within =
    let number = length-decimal-le 9 mark.0 (omega arith) (omega (arith, within))
    (omega (arith, within)) in
    omega (arith, number, line_length (decimal mark.0) dash (mark_letter mark.1))

start_short : (at : ℕ) → at < 10 ^ 18 → length (decimal at) ≤ 18
start_short at early = length-decimal-le 18 at (omega arith) early (omega (arith, early))

row_short : (fields : List (List ℕ)) (row : Event) → IsRow fields row
    → length (record_line (row_fields row)) ≤ 31
row_short fields (Word at line word) is =
    let start = start_short at (IsDecimal-lt 18 is.0 at is.3) in
    omega (arith, start, line_length (decimal at) (hex_word word) (letter_of line))
row_short fields (Break at span) is =
    let start = start_short at (IsDecimal-lt 18 is.0 at is.3) in
    let short = IsDecimal-lt 9 is.1 span is.4 in
    let long = length-decimal-le 9 span (omega arith) short (omega (arith, short)) in
    omega (arith, start, long, line_length (decimal at) (decimal span) break_letter)

rows_short : (records : List (List (List ℕ))) (rows : List Event) → AreRows records rows
    → length (flat_map record_line (map row_fields rows)) ≤ 31 * length rows
rows_short [] [] told = omega arith
rows_short (fields ∷ records) (row ∷ rows) told =
    let both = length-append (record_line (row_fields row))
    (flat_map record_line (map row_fields rows)) in
    omega (arith, row_short fields row told.0, rows_short records rows told.1, both)
rows_short records rows told = absurd told

-- a mark takes 14 bytes at most, and a row 31
pub explanation_short : (records : List (List (List ℕ))) (rows : List Event)
    (marks : List (ℕ × Mark)) → AreRows records rows → All (λ mark. mark.0 ≤ ROWS_MAX) marks
    → length (explanation_text marks rows) ≤ 14 * length marks + 31 * length rows
explanation_short records rows [] told within = omega (arith, rows_short records rows told)
explanation_short records rows (mark ∷ marks) told within =
    let IsWithin : ℕ × Mark → Type 0 = λ m. m.0 ≤ ROWS_MAX in
    let first = mark_short mark (All-head IsWithin mark marks within) in
    let others = explanation_short records rows marks told (All-tail IsWithin mark marks within) in
    let both = length-append (record_line (mark_fields mark)) (explanation_text marks rows) in
    omega (arith, first, others, both)
