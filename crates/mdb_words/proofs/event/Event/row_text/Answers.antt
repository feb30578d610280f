-- A row is written as the event says, and has room.
use Rattle.mdb_words.proofs.Words.{◌≡◌, ◌≤◌, length, length-append, ap, arith, length-decimal-le, decimal, hex_word}
use Rattle.mdb_words.proofs.Numerals.{length_start}
use Rattle.mdb_words.proofs.Rows.{break_written, word_written}
use Rattle.mdb_words.proofs.event.Event.row_text.Goals as goal
use Rattle.mdb_words.proofs.event.Event.row_text.Goals.{Joined-line, in-Controller, in-Peripheral}

-- before the word a row has its time and three bytes
before : (c : Joined-line)
    → (length c.push_decimal.new.text.bytes ≤ 18) × (length c.match-line.push_str.now ≡ 3)
before c = (
  length_start c.value.result _ _ c.new-text.ensures c.push_decimal.ensures (omega arith),
  elim c.match-line.branch [
    | in-Controller w ↦ ap (λ s. length s.now) w.push_str-is
    | in-Peripheral w ↦ ap (λ s. length s.now) w.push_str-is
  ],
)

pub push_decimal-requires : goal.push_decimal-requires
push_decimal-requires c =
    omega (
      arith,
      ap length c.new-text.ensures,
      length-decimal-le 18 c.value.result (omega arith) (omega arith) (omega arith),
    )

pub push_str-requires : goal.push_str-requires
push_str-requires c =
    let start = before (goal.at.push_str-requires c).Joined-line in
    (omega arith, omega arith)

pub push_hex_word-requires-clause-room : goal.push_hex_word-requires-clause-room
push_hex_word-requires-clause-room c =
    let start = before (goal.at.push_hex_word-requires-clause-room c).Joined-line in
    omega arith

pub returns-after-line-clause-row : goal.returns-after-line-clause-row
returns-after-line-clause-row c =
    (word_written c.args.self.now c.start.result c.in-Word.at c.in-Word.line c.in-Word.word
    c.in-Word.is c.start.ensures c.value.ensures.range c.value-in-Word.ensures.range).0

pub returns-after-line-clause-apart : goal.returns-after-line-clause-apart
returns-after-line-clause-apart c =
    (word_written c.args.self.now c.start.result c.in-Word.at c.in-Word.line c.in-Word.word
    c.in-Word.is c.start.ensures c.value.ensures.range c.value-in-Word.ensures.range).1

pub returns-after-line-clause-short : goal.returns-after-line-clause-short
returns-after-line-clause-short c =
    let start = before (goal.at.returns-after-line-clause-short c).Joined-line in
    omega (
      arith,
      ap length c.push_hex_word.ensures,
      length-append c.push_str.new.self.bytes (hex_word c.value-in-Word.result),
    )

pub push_str-requires-in-Break : goal.push_str-requires-in-Break
push_str-requires-in-Break c =
    let start =
    length_start c.value.result _ _ c.new-text.ensures c.push_decimal.ensures (omega arith) in
    (omega arith, omega arith)

pub push_decimal-requires-in-Break : goal.push_decimal-requires-in-Break
push_decimal-requires-in-Break c =
    let start =
    length_start c.value.result _ _ c.new-text.ensures c.push_decimal.ensures (omega arith) in
    omega (
      arith,
      length-decimal-le 9 c.value-in-Break.result (omega arith) (omega arith) (omega arith),
    )

pub returns-in-Break-clause-row : goal.returns-in-Break-clause-row
returns-in-Break-clause-row c =
    (break_written c.args.self.now c.start.result c.in-Break.at c.in-Break.length c.in-Break.is
    c.start.ensures c.value.ensures.range c.value-in-Break.ensures.range).0

pub returns-in-Break-clause-apart : goal.returns-in-Break-clause-apart
returns-in-Break-clause-apart c =
    (break_written c.args.self.now c.start.result c.in-Break.at c.in-Break.length c.in-Break.is
    c.start.ensures c.value.ensures.range c.value-in-Break.ensures.range).1

pub returns-in-Break-clause-short : goal.returns-in-Break-clause-short
returns-in-Break-clause-short c =
    let start =
    length_start c.value.result _ _ c.new-text.ensures c.push_decimal.ensures (omega arith) in
    let end =
    length-decimal-le 9 c.value-in-Break.result (omega arith) (omega arith) (omega arith) in
    omega (
      arith,
      end,
      ap length c.push_decimal-in-Break.ensures,
      length-append c.push_str-in-Break.new.self.bytes (decimal c.value-in-Break.result),
    )
