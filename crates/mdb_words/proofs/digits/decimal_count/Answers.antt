-- What the bytes of a field count together is told by what each counts at its place.
use Rattle.mdb_words.proofs.Words.{[], ◌∷◌, arith}
use Rattle.mdb_words.proofs.Numerals.{counted_at}
use Rattle.mdb_words.proofs.digits.decimal_count.Goals as goal

pub returns-in-len3 : goal.returns-in-len3
returns-in-len3 c =
    counted_at c.args.digits.now (c.decimal-in-len3.result ∷ c.decimal-in-len3-2.result
    ∷ c.decimal-in-len3-3.result ∷ []) 3 _ (omega arith) (omega arith) (search)

pub returns-in-len4 : goal.returns-in-len4
returns-in-len4 c =
    counted_at c.args.digits.now (c.decimal-in-len4.result ∷ c.decimal-in-len4-2.result
    ∷ c.decimal-in-len4-3.result ∷ c.decimal-in-len4-4.result
    ∷ []) 4 _ (omega arith) (omega arith) (search)

pub returns-in-len5 : goal.returns-in-len5
returns-in-len5 c =
    counted_at c.args.digits.now (c.decimal-in-len5.result ∷ c.decimal-in-len5-2.result
    ∷ c.decimal-in-len5-3.result ∷ c.decimal-in-len5-4.result ∷ c.decimal-in-len5-5.result
    ∷ []) 5 _ (omega arith) (omega arith) (search)

pub returns-in-len6 : goal.returns-in-len6
returns-in-len6 c =
    counted_at c.args.digits.now (c.decimal-in-len6.result ∷ c.decimal-in-len6-2.result
    ∷ c.decimal-in-len6-3.result ∷ c.decimal-in-len6-4.result ∷ c.decimal-in-len6-5.result
    ∷ c.decimal-in-len6-6.result ∷ []) 6 _ (omega arith) (omega arith) (search)

pub returns-in-len7 : goal.returns-in-len7
returns-in-len7 c =
    counted_at c.args.digits.now (c.decimal-in-len7.result ∷ c.decimal-in-len7-2.result
    ∷ c.decimal-in-len7-3.result ∷ c.decimal-in-len7-4.result ∷ c.decimal-in-len7-5.result
    ∷ c.decimal-in-len7-6.result ∷ c.decimal-in-len7-7.result
    ∷ []) 7 _ (omega arith) (omega arith) (search)

pub returns-in-len8 : goal.returns-in-len8
returns-in-len8 c =
    counted_at c.args.digits.now (c.decimal-in-len8.result ∷ c.decimal-in-len8-2.result
    ∷ c.decimal-in-len8-3.result ∷ c.decimal-in-len8-4.result ∷ c.decimal-in-len8-5.result
    ∷ c.decimal-in-len8-6.result ∷ c.decimal-in-len8-7.result ∷ c.decimal-in-len8-8.result
    ∷ []) 8 _ (omega arith) (omega arith) (search)
