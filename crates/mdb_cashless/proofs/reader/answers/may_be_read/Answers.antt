-- A reply without a reset message can't be read as a restart.
use Rattle.mdb_cashless.proofs.Words.{messages_of, part_of, no_restart}
use Rattle.mdb_cashless.proofs.reader.answers.may_be_read.Goals as goal

pub returns-in-Restart : goal.returns-in-Restart
returns-in-Restart c =
    rw c.in-Restart.is (no_restart c.tells_of_reset.result part_of (messages_of c.args.reply.now)
    c.tells_of_reset.ensures)
