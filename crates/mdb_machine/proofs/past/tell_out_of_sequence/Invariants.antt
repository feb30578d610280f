-- No message so far reports a command out of sequence, so one does where one of the rest does.
use Rattle.mdb_machine.proofs.Words.{◌≡◌, list_any, is_out_of_sequence}
use Rattle.mdb_machine.proofs.past.tell_out_of_sequence.Given as goal

abbrev pub invariant-loop-message : goal.invariant-loop-message
invariant-loop-message l =
    record {
      next : (goal.iterator-loop-message).can_next l.message-iterator;
      finite : (goal.iterator-loop-message).is_finite l.message-iterator;
      same : list_any is_out_of_sequence l.list.messages
          ≡ list_any is_out_of_sequence l.message-iterator;
    }
