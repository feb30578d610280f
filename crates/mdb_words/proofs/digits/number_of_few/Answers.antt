-- A count of 100,000,000 or more has a byte that is no digit, so there is no number.
use Rattle.mdb_words.proofs.Numerals.{few_none}
use Rattle.mdb_words.proofs.digits.number_of_few.Goals as goal

pub returns-else-count-lt100000000 : goal.returns-else-count-lt100000000
returns-else-count-lt100000000 c =
    few_none c.args.digits.now _ c.decimal_count-count.ensures c.requires
    c.if-count-lt100000000.false
