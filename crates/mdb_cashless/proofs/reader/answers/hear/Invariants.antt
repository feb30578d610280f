-- Hearing the rest from here leads to the same view and sum as hearing all. The sum is small.
use Rattle.mdb_cashless.proofs.Words.{◌≡◌, ◌+◌, ◌*◌, ◌≤◌, ◌++◌, ◌||◌, length, all_heard, keeps_some, all_approved_to}
use Rattle.mdb_cashless.proofs.reader.answers.hear.Given as goal

abbrev pub invariant-loop-message : goal.invariant-loop-message
invariant-loop-message l =
    record {
      next : (goal.iterator-loop-message).can_next l.message-iterator;
      finite : (goal.iterator-loop-message).is_finite l.message-iterator;
      all : l.fn.messages ≡ l.yielded ++ l.message-iterator;
      view : all_heard l.message-iterator l.view ≡ all_heard l.fn.messages l.fn.before;
      approved : l.approved + all_approved_to l.config l.view l.message-iterator
          ≡ all_approved_to l.config l.fn.before l.fn.messages;
      small : l.approved ≤ 16711425 * length l.yielded;
      keeps : keeps_some l.fn.messages ≡ (keeps_some l.message-iterator || l.keeps);
    }
