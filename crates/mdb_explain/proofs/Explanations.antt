-- The text of an explanation is read as the records of its marks and rows.
use Rattle.mdb_explain.proofs.Words.{All, All-head, All-tail, AreMarkRows, AreRows, Event, IsDecimal-decimal, IsMarkRow, List, Mark, ROWS_MAX, [], arith, dash, decimal, default_config, explanation_records, explanation_text, map, mark_fields, mark_letter, read_records, refl, row_fields, strip_bom, ℕ, ◌∷◌, ◌≡◌, ◌≤◌}
use Rattle.mdb_words.specs.Digits.{IsDecimal}
use Rattle.mdb_run_search.specs.declared.mark.Mark.TheVariants.{Lost}
use Rattle.mdb_records.proofs.PlainRecords.{ArePlain, IsPlain, IsPlainByte, plain_append, read_of_lines}
use Rattle.mdb_records.proofs.PlainRows.{one_plain, plain_of, row_written}

-- Rows.

plain_rows : (records : List (List (List ℕ))) (rows : List Event) → AreRows records rows
    → ArePlain (map row_fields rows) × AreRows (map row_fields rows) rows
plain_rows [] [] told = (tt, tt)
plain_rows (fields ∷ records) (row ∷ rows) told =
    let written = row_written fields row told.0 in
    let others = plain_rows records rows told.1 in
    ((written.1, others.0), (written.0, others.1))
plain_rows records rows told = absurd told

-- Marks.

letter_plain : (mark : Mark) → IsPlainByte (mark_letter mark)
letter_plain Lost = (omega arith, omega arith)
letter_plain _ = (omega arith, omega arith)

abbrev IsWithin : ℕ × Mark → Type 0
IsWithin mark = mark.0 ≤ ROWS_MAX

mark_written : (mark : ℕ × Mark) → IsWithin mark
    → IsPlain (mark_fields mark) × IsMarkRow (mark_fields mark) mark
mark_written mark within =
    let number : IsDecimal 15 (decimal mark.0) mark.0 =
    IsDecimal-decimal 15 mark.0 (omega arith) (omega (arith, within)) (omega (arith, within)) in (
      plain_of 15 mark.0 (mark_letter mark.1) dash number (letter_plain mark.1)
          (one_plain 45 (omega arith, omega arith)),
      record { number = decimal mark.0; are = refl; row = number },
    )

plain_marks : (marks : List (ℕ × Mark)) → All IsWithin marks
    → ArePlain (map mark_fields marks) × AreMarkRows (map mark_fields marks) marks
plain_marks [] within = (tt, tt)
plain_marks (mark ∷ marks) within =
    let written = mark_written mark (All-head IsWithin mark marks within) in
    let others = plain_marks marks (All-tail IsWithin mark marks within) in
    ((written.0, others.0), (written.1, others.1))

-- so the text is read as these
pub read_as_written : (records : List (List (List ℕ))) (rows : List Event) (marks : List (ℕ × Mark))
    → AreRows records rows → All (λ mark. mark.0 ≤ ROWS_MAX) marks
    → (read_records default_config (strip_bom (explanation_text marks rows))
    ≡ explanation_records marks rows) × AreMarkRows (map mark_fields marks) marks
    × AreRows (map row_fields rows) rows
read_as_written records rows marks told within =
    let first = plain_marks marks within in
    let second = plain_rows records rows told in (
      read_of_lines (explanation_records marks rows)
          (plain_append (map mark_fields marks) (map row_fields rows) first.0 second.0),
      first.1,
      second.1,
    )
