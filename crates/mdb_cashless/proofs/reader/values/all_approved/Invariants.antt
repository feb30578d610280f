-- The total is that of the messages so far, with a bound for each message.
use Rattle.mdb_cashless.proofs.Words.{◌≡◌, ◌*◌, ◌≤◌, sum_by, take, approved}
use Rattle.mdb_cashless.proofs.reader.values.all_approved.Given as goal

abbrev pub invariant-loop-message : goal.invariant-loop-message
invariant-loop-message l =
    record {
      value : l.total ≡ sum_by (approved l.config) (take l.message-index l.news);
      small : l.total ≤ 16711425 * l.message-index;
    }
