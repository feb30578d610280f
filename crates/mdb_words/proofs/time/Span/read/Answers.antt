-- A length of up to 9 digits is below 10 ^ 9.
use Rattle.mdb_words.proofs.Numerals.{IsDecimal-lt}
use Rattle.mdb_words.proofs.time.Span.read.Goals as goal

pub invariant_of-result : goal.invariant_of-result
invariant_of-result c =
    IsDecimal-lt 9 c.args.field.now c.in_ok-micros.micros c.in_ok-micros.ensures.some
