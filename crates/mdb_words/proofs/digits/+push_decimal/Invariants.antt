-- Each call has a smaller number.
use Rattle.mdb_words.proofs.digits.+push_decimal.Given as goal

abbrev pub decreases-push_decimal : goal.decreases-push_decimal
decreases-push_decimal l = l.number
