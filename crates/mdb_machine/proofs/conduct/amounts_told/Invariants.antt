-- The count is that of the messages so far that report money, at most one for each.
use Rattle.mdb_machine.proofs.Words.{◌≡◌, ◌≤◌, sum_by, take, one_if}
use Rattle.mdb_machine.proofs.conduct.amounts_told.Given as goal

abbrev pub invariant-loop-message : goal.invariant-loop-message
invariant-loop-message g l =
    record {
      count : l.count
          ≡ sum_by (λ message. one_if (g.K.Conduct.conduct.tells_amount message))
          (take l.message-index l.kept);
      small : l.count ≤ l.message-index;
    }
