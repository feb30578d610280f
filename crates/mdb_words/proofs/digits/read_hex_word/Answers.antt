-- A count below 512 is the word of three hexadecimal digits, and from 512 on there is none.
use Rattle.mdb_words.proofs.Words.{arith}
use Rattle.mdb_words.proofs.Numerals.{hex_none, hex_some}
use Rattle.mdb_words.proofs.digits.read_hex_word.Goals as goal

pub returns-then-word-lt512-clause-some : goal.returns-then-word-lt512-clause-some
returns-then-word-lt512-clause-some c =
    hex_some c.args.field.now _ _ _ (omega arith) c.hexadecimal.ensures.count
    c.hexadecimal-2.ensures.count c.hexadecimal-3.ensures.count c.if-word-lt512.true

pub returns-else-word-lt512-clause-none : goal.returns-else-word-lt512-clause-none
returns-else-word-lt512-clause-none c =
    hex_none c.args.field.now _ _ _ c.hexadecimal.ensures.count c.hexadecimal-2.ensures.count
    c.hexadecimal-3.ensures.count c.if-word-lt512.false
