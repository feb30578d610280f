-- The summary is that of the messages so far, and keeps at most as many.
use Rattle.mdb_machine.proofs.Words.{◌≤◌, map, take, array_vec_len, IsSummary}
use Rattle.mdb_machine.proofs.kept.summary_of.Given as goal

abbrev pub invariant-loop-message : goal.invariant-loop-message
invariant-loop-message g l =
    record {
      summary : IsSummary l.summary.kept.items l.summary.reset l.summary.early
          (map g.M.KeptAmong.part_of (take l.message-index l.messages));
      room : array_vec_len l.summary.kept ≤ l.message-index;
    }
