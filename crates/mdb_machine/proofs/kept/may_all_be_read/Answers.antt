-- Messages without a reset message can't be read as a restart.
use Rattle.mdb_machine.proofs.KeptLists.{no_restart}
use Rattle.mdb_machine.proofs.kept.may_all_be_read.Goals as goal

pub returns-in-Restart : goal.returns-in-Restart
returns-in-Restart g c =
    rw c.in-Restart.is (no_restart c.tell_reset.result g.M.KeptAmong.part_of c.args.messages.now
    c.tell_reset.ensures)
