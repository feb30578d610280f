-- What was said is what the messages seen say, so no more is kept than was seen.
use Rattle.mdb_cashless.proofs.Words.{◌≡◌, ◌≤◌, ◌++◌, length, array_vec_len, IsSaid}
use Rattle.mdb_cashless.proofs.reader.messages.Said.read.Given as goal

abbrev pub invariant-loop-message : goal.invariant-loop-message
invariant-loop-message l =
    record {
      next : (goal.iterator-loop-message).can_next l.message-iterator;
      finite : (goal.iterator-loop-message).is_finite l.message-iterator;
      all : l.fn.messages ≡ l.yielded ++ l.message-iterator;
      said : IsSaid l.self l.yielded;
      room : array_vec_len l.self.summary.kept ≤ length l.yielded;
    }
