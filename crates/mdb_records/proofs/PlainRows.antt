-- The fields of rows as they are written: plain ones, which tell those rows.
use Rattle.mdb_words.proofs.Rows.{hex_bytes}
use Rattle.mdb_records.proofs.Words.{arith, refl, ◌^◌, ◌<◌, ℕ, true, List, [], ◌∷◌, All, nat_tests, All-nil, All-cons, All-weaker, hex_word, row_fields}
use Rattle.std.specs.Char.{IsAsciiDigit}
use Rattle.std.specs.Fmt.{decimal, digit_glyph}
use Rattle.mdb_words.specs.declared.event.Event.{Event}
use Rattle.mdb_words.specs.declared.event.Event.TheVariants.{Word, Break}
use Rattle.mdb_words.specs.declared.word.Line.{Line}
use Rattle.mdb_words.specs.declared.word.Line.TheVariants.{Controller, Peripheral}
use Rattle.mdb_words.specs.Digits.{IsDecimal}
use Rattle.mdb_words.specs.Row.{IsRow, break_letter, letter_of}
use Rattle.mdb_records.proofs.PlainRecords.{IsPlain, IsPlainByte}
use Rattle.mdb_words.proofs.Numerals.{IsDecimal-decimal, IsDecimal-lt, IsHexWord-hex_word}

decimal_plain : (most n : ℕ) → IsDecimal most (decimal n) n → All IsPlainByte (decimal n)
decimal_plain most n is = All-weaker IsAsciiDigit IsPlainByte
    (λ c digit. (omega (arith, digit), omega (arith, digit))) (decimal n) is.digits

glyph_plain : (d : ℕ) → d < 16 → IsPlainByte (digit_glyph true d)
glyph_plain d h = grind (arith, nat_tests)

pub one_plain : (c : ℕ) → IsPlainByte c → All IsPlainByte (c ∷ [])
one_plain c plain = All-cons IsPlainByte c [] plain (All-nil IsPlainByte)

letter_plain : (line : Line) → IsPlainByte (letter_of line)
letter_plain Controller = (omega arith, omega arith)
letter_plain Peripheral = (omega arith, omega arith)

-- three plain fields, of which the first is a number
pub plain_of : (most n : ℕ) (letter : ℕ) (value : List ℕ) → IsDecimal most (decimal n) n
    → IsPlainByte letter → All IsPlainByte value → IsPlain (decimal n ∷ (letter ∷ []) ∷ value ∷ [])
plain_of most n letter value is plain others = record {
  first = decimal n;
  second = letter ∷ [];
  third = value;
  are = refl;
  some = is.some;
  first_plain = decimal_plain most n is;
  second_plain = one_plain letter plain;
  third_plain = others;
}

-- An event of a row, written as one.

abbrev pub IsWritten : Event → Type 0
IsWritten event = IsRow (row_fields event) event × IsPlain (row_fields event)

pub word_written : (at : ℕ) (line : Line) (word : ℕ) → at < 10 ^ 18 → word < 512
    → IsWritten (Word at line word)
word_written at line word early small =
    let start : IsDecimal 18 (decimal at) at =
    IsDecimal-decimal 18 at (omega arith) early (omega arith) in (
      (decimal at, hex_word word, refl, start, IsHexWord-hex_word word small),
      plain_of 18 at (letter_of line) (hex_word word) start (letter_plain line)
          (hex_bytes IsPlainByte glyph_plain word small),
    )

pub break_written : (at span : ℕ) → at < 10 ^ 18 → span < 10 ^ 9 → IsWritten (Break at span)
break_written at span early short =
    let start : IsDecimal 18 (decimal at) at =
    IsDecimal-decimal 18 at (omega arith) early (omega arith) in
    let long : IsDecimal 9 (decimal span) span =
    IsDecimal-decimal 9 span (omega arith) short (omega arith) in (
      (decimal at, decimal span, refl, start, long),
      plain_of 18 at break_letter (decimal span) start (omega arith, omega arith)
          (decimal_plain 9 span long),
    )

pub row_written : (fields : List (List ℕ)) (event : Event) → IsRow fields event → IsWritten event
row_written fields (Word at line word) is =
    word_written at line word (IsDecimal-lt 18 is.0 at is.3) is.4.small
row_written fields (Break at span) is =
    break_written at span (IsDecimal-lt 18 is.0 at is.3) (IsDecimal-lt 9 is.1 span is.4)
