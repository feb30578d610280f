-- The count and the approvals in the rest together are those of all messages.
use Rattle.mdb_cashless.proofs.Words.{◌≡◌, ◌+◌, ◌≤◌, ◌++◌, length, sum_by, is_approval}
use Rattle.mdb_machine.specs.Unvalued.{one_if}
use Rattle.mdb_cashless.proofs.reader.unvalued.approvals.Given as goal

abbrev pub invariant-loop-message : goal.invariant-loop-message
invariant-loop-message l =
    record {
      next : (goal.iterator-loop-message).can_next l.message-iterator;
      finite : (goal.iterator-loop-message).is_finite l.message-iterator;
      all : l.fn.messages ≡ l.yielded ++ l.message-iterator;
      count : l.count + sum_by (λ message. one_if (is_approval message)) l.message-iterator
          ≡ sum_by (λ message. one_if (is_approval message)) l.fn.messages;
      small : l.count ≤ length l.yielded;
    }
