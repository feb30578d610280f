-- No message so far approves a sale, so one does where one of the rest does.
use Rattle.mdb_machine.proofs.Words.{◌≡◌, list_any, is_approval}
use Rattle.mdb_machine.proofs.choice.tell_approval.Given as goal

abbrev pub invariant-loop-message : goal.invariant-loop-message
invariant-loop-message l =
    record {
      next : (goal.iterator-loop-message).can_next l.message-iterator;
      finite : (goal.iterator-loop-message).is_finite l.message-iterator;
      same : list_any is_approval l.fn.messages
          ≡ list_any is_approval l.message-iterator;
    }
