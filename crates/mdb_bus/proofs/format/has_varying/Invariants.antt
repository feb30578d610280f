-- No message so far varies, so one of the list does where one of the rest does.
use Rattle.mdb_bus.proofs.Words.{list_any, varies, ◌≡◌}
use Rattle.mdb_bus.proofs.format.has_varying.Given as goal

abbrev pub invariant-loop-message : goal.invariant-loop-message
invariant-loop-message l =
    record {
      next : (goal.iterator-loop-message).can_next l.message-iterator;
      finite : (goal.iterator-loop-message).is_finite l.message-iterator;
      same : list_any varies l.list.messages ≡ list_any varies l.message-iterator;
    }
