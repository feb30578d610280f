-- The list has the approvals among the messages seen, so it is no longer than what was seen.
use Rattle.mdb_cashless.proofs.Words.{◌≡◌, ◌≤◌, ◌++◌, length, array_vec_len, approvals_in}
use Rattle.mdb_cashless.proofs.approvals.facts.approvals.Given as goal

abbrev pub invariant-loop-message : goal.invariant-loop-message
invariant-loop-message l =
    record {
      next : (goal.iterator-loop-message).can_next l.message-iterator;
      finite : (goal.iterator-loop-message).is_finite l.message-iterator;
      all : l.fn.messages ≡ l.yielded ++ l.message-iterator;
      list : l.list.items ++ approvals_in l.message-iterator ≡ approvals_in l.fn.messages;
      room : array_vec_len l.list ≤ length l.yielded;
    }
