-- No message so far is a refusal, so the list has one where the rest does.
use Rattle.mdb_bus.proofs.Words.{is_refusal, list_any, ◌≡◌}
use Rattle.mdb_bus.proofs.features.has_refusal.Given as goal

abbrev pub invariant-loop-message : goal.invariant-loop-message
invariant-loop-message l =
    record {
      next : (goal.iterator-loop-message).can_next l.message-iterator;
      finite : (goal.iterator-loop-message).is_finite l.message-iterator;
      same : list_any is_refusal l.list.messages ≡ list_any is_refusal l.message-iterator;
    }
