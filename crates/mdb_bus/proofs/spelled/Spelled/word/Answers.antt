-- A word of a spelled reply is that of its block.
use Rattle.mdb_bus.proofs.Words.{ap, arith, length, reply_bytes}
use Rattle.mdb_bus.proofs.Verdicts.{word_after, word_there, words_count}
use Rattle.mdb_bus.proofs.spelled.Spelled.word.Goals as goal

pub returns-then-index-bytes-clause-word : goal.returns-then-index-bytes-clause-word
returns-then-index-bytes-clause-word c =
    word_there (reply_bytes c.args.self.now.reply) c.sealed-block.result c.args.index
    (rw c.args.self.now.spelled at c.sealed-block.ensures) c.word.result
    (omega (arith, ap length c.bytes.ensures.bytes)) c.word.ensures

pub returns-then-index-bytes-clause-count : goal.returns-then-index-bytes-clause-count
returns-then-index-bytes-clause-count c =
    rw c.args.self.now.spelled (words_count (reply_bytes c.args.self.now.reply))

pub returns-else-index-bytes-clause-word : goal.returns-else-index-bytes-clause-word
returns-else-index-bytes-clause-word c =
    word_after (reply_bytes c.args.self.now.reply) c.sealed-block.result c.args.index
    (rw c.args.self.now.spelled at c.sealed-block.ensures)
    (omega (arith, ap length c.bytes.ensures.bytes))

pub returns-else-index-bytes-clause-count : goal.returns-else-index-bytes-clause-count
returns-else-index-bytes-clause-count c =
    rw c.args.self.now.spelled (words_count (reply_bytes c.args.self.now.reply))
