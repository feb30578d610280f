-- The list has the messages seen that count, so it is no longer than what was seen.
use Rattle.mdb_bus.proofs.Words.{counts, filter, length, ◌++◌, ◌≡◌, ◌≤◌}
use Rattle.arrayvec.specs.ArrayVec.{array_vec_len}
use Rattle.mdb_bus.proofs.counts.messages_in.Given as goal

abbrev pub invariant-loop-message : goal.invariant-loop-message
invariant-loop-message l =
    record {
      next : (goal.iterator-loop-message).can_next l.message-iterator;
      finite : (goal.iterator-loop-message).is_finite l.message-iterator;
      few : length l.fn.list.messages ≤ 35;
      all : l.fn.list.messages ≡ l.yielded ++ l.message-iterator;
      list : l.messages.items ++ filter counts l.message-iterator
          ≡ filter counts l.fn.list.messages;
      room : array_vec_len l.messages ≤ length l.yielded;
    }
