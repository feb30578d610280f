-- The digits of a tenth come first and the last digit after them, and all have room.
use Rattle.mdb_words.proofs.Words.{ap, ◌∙◌, arith}
use Rattle.mdb_words.proofs.Numerals.{decimal_append, decimal_append_digit, decimal_append_digit_room, decimal_append_room, decimal_longer}
use Rattle.mdb_words.proofs.digits.+push_decimal.Goals as goal
use Rattle.mdb_words.proofs.digits.+push_decimal.Goals.{then-number-ge10, else-number-ge10}

pub push_decimal-requires : goal.push_decimal-requires
push_decimal-requires t c = (
  omega arith,
  omega (arith, decimal_longer c.args.number c.if-number-ge10.true c.ranges.number.fits),
)

pub push_digit-requires-clause-room : goal.push_digit-requires-clause-room
push_digit-requires-clause-room t c =
    let old = c.args.text.now.bytes in
    elim c.if-number-ge10.branch [
      | then-number-ge10 w ↦
          decimal_append_room old _ c.args.number w.if-number-ge10.true c.ranges.number.fits
          (ap (λ text. text.bytes) w.text-is ∙ w.push_decimal.ensures) c.requires
      | else-number-ge10 w ↦
          decimal_append_digit_room old _ c.args.number w.if-number-ge10.false
          (ap (λ text. text.bytes) w.text-is) c.requires
    ]

pub returns : goal.returns
returns t c =
    let old = c.args.text.now.bytes in
    elim c.if-number-ge10.branch [
      | then-number-ge10 w ↦
          decimal_append old _ c.args.number w.if-number-ge10.true c.ranges.number.fits
          (ap (λ text. text.bytes) w.text-is ∙ w.push_decimal.ensures) _ c.push_digit.ensures
      | else-number-ge10 w ↦
          decimal_append_digit old _ c.args.number w.if-number-ge10.false
          (ap (λ text. text.bytes) w.text-is) _ c.push_digit.ensures
    ]
