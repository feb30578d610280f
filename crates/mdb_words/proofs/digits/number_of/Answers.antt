-- The number of up to 15 digits is put together from two of up to 8.
use Rattle.mdb_words.proofs.Words.{◌∙◌, ap, length, arith}
use Rattle.mdb_words.proofs.Entries.{power_at}
use Rattle.mdb_words.proofs.Numerals.{IsSoFar, front_so_far, goes_on, small_number, none_so_far}
use Rattle.mdb_words.proofs.digits.number_of.Goals.{Joined-digits-lt8, then-digits-lt8, else-digits-lt8+in_ok-number_of_few}
use Rattle.mdb_words.proofs.digits.number_of.Goals as goal

-- what was read so far, and what is left
so_far : (c : Joined-digits-lt8)
    → IsSoFar c.args.digits.now c.if-digits-lt8.high.0 c.if-digits-lt8.high.1.now
so_far c = elim c.if-digits-lt8.branch [
  | then-digits-lt8 w ↦
      none_so_far c.args.digits.now c.if-digits-lt8.high.1.now c.if-digits-lt8.high.0
      (ap (λ p. p.0) w.high-is) (ap (λ p. p.1.now) w.high-is) w.if-digits-lt8.true
  | else-digits-lt8+in_ok-number_of_few w ↦
      front_so_far 8 c.args.digits.now c.if-digits-lt8.high.1.now c.if-digits-lt8.high.0
      (ap (λ p. p.1.now) w.high-is) (
        w.in_ok-number_of_few.ensures.0,
        ap (λ p. p.0) w.high-is ∙ w.in_ok-number_of_few.ensures.1,
      ) c.requires
]

pub returns : goal.returns
returns c =
    let is = so_far (goal.at.returns c).Joined-digits-lt8 in
    goes_on c.args.digits.now c.if-digits-lt8.high.1.now c.if-digits-lt8.high.0 c.in_ok-low.low _
    is (power_at (length c.if-digits-lt8.high.1.now) is.few) c.in_ok-low.ensures

pub overflow_mul-result : goal.overflow_mul-result
overflow_mul-result c = omega (arith, small_number 15 c.args.digits.now _ c.requires (returns c))

pub overflow_add-result : goal.overflow_add-result
overflow_add-result c = omega (arith, small_number 15 c.args.digits.now _ c.requires (returns c))
