-- The number of up to 18 digits is put together from that of the last few and of those before.
use Rattle.std.proofs.lemmas.List.{take-append-drop}
use Rattle.mdb_words.proofs.Words.{◌≤◌, ◌-◌, ◌∙◌, ap, length, sym, arith, nat_tests}
use Rattle.mdb_words.proofs.Entries.{power_at}
use Rattle.mdb_words.proofs.Numerals.{IsSoFar, front_so_far, goes_on, none_so_far, part_digits, small_number}
use Rattle.mdb_words.proofs.digits.time_of.Goals.{Joined-digits-gt15, then-digits-gt15+in_ok-front_of, else-digits-gt15+then-digits-lt8, else-digits-gt15+else-digits-lt8+in_ok-number_of_few}
use Rattle.mdb_words.proofs.digits.time_of.Goals as goal

-- what was read so far, and what is left
so_far : (c : Joined-digits-gt15)
    → IsSoFar c.args.digits.now c.if-digits-gt15.high.0 c.if-digits-gt15.high.1.now
    × (1 ≤ length c.args.digits.now) × (length c.args.digits.now ≤ 18)
so_far c = elim c.if-digits-gt15.branch [
  | then-digits-gt15+in_ok-front_of w ↦
      let front = w.in_ok-front_of.ensures in (
        front_so_far (length c.args.digits.now - 7) c.args.digits.now c.if-digits-gt15.high.1.now
            c.if-digits-gt15.high.0 (ap (λ p. p.1.now) w.high-is)
            (front.0.2, ap (λ p. p.0) w.high-is ∙ front.1) (omega arith),
        omega (arith, front.0.0),
        front.0.1,
      )
  | else-digits-gt15+then-digits-lt8 w ↦ (
    none_so_far c.args.digits.now c.if-digits-gt15.high.1.now c.if-digits-gt15.high.0
        (ap (λ p. p.0) w.high-is) (ap (λ p. p.1.now) w.high-is) w.if-digits-lt8.true,
    grind (arith, nat_tests),
    omega (arith, w.if-digits-gt15.false.1),
  )
  | else-digits-gt15+else-digits-lt8+in_ok-number_of_few w ↦ (
    front_so_far 8 c.args.digits.now c.if-digits-gt15.high.1.now c.if-digits-gt15.high.0
        (ap (λ p. p.1.now) w.high-is) (
          w.in_ok-number_of_few.ensures.0,
          ap (λ p. p.0) w.high-is ∙ w.in_ok-number_of_few.ensures.1,
        ) w.if-digits-gt15.false.1,
    grind (arith, nat_tests),
    omega (arith, w.if-digits-gt15.false.1),
  )
]

pub returns-in_err-front_of : goal.returns-in_err-front_of
returns-in_err-front_of c =
    rw c.from_residual.ensures (λ time. c.in_err-front_of.ensures (
      grind (arith, nat_tests),
      time.1,
      (part_digits c.args.digits.now _ _
          (sym (take-append-drop (length c.args.digits.now - 7) c.args.digits.now)) time.2).0,
    ))

pub returns-in_err-low : goal.returns-in_err-low
returns-in_err-low c =
    let is = so_far (goal.at.returns-in_err-low c).Joined-digits-gt15 in
    rw c.from_residual-in_err-low.ensures (λ time. c.in_err-low.ensures
    (part_digits c.args.digits.now is.0.front c.if-digits-gt15.high.1.now is.0.split time.2).1)

pub returns : goal.returns
returns c =
    let is = so_far (goal.at.returns c).Joined-digits-gt15 in
    let read = goes_on c.args.digits.now c.if-digits-gt15.high.1.now c.if-digits-gt15.high.0
    c.in_ok-low.low _ is.0 (power_at (length c.if-digits-gt15.high.1.now) is.0.few)
    c.in_ok-low.ensures in
    ((is.1, is.2, read.0), read.1)

pub overflow_mul-result : goal.overflow_mul-result
overflow_mul-result c =
    let is = returns c in omega (arith, small_number 18 c.args.digits.now _ is.0.1 (is.0.2, is.1))

pub overflow_add-result : goal.overflow_add-result
overflow_add-result c =
    let is = returns c in omega (arith, small_number 18 c.args.digits.now _ is.0.1 (is.0.2, is.1))
