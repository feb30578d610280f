-- An entry of the table is what the byte counts as a digit at that place, and within its bound.
use Rattle.mdb_words.proofs.Words.{arith}
use Rattle.mdb_words.proofs.Entries.{decimal_at, decimal_most}
use Rattle.mdb_words.proofs.digits.decimal.Goals as goal

pub returns-clause-count : goal.returns-clause-count
returns-clause-count c =
    decimal_at c.args.place c.from.result c.args.byte c.requires c.from.ensures (omega arith)

pub returns-clause-bound : goal.returns-clause-bound
returns-clause-bound c =
    decimal_most c.args.place c.from.result c.args.byte c.requires c.from.ensures (omega arith)
