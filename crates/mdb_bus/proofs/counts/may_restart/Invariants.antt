-- No message so far decides whether there was a restart, so the rest decides it.
use Rattle.mdb_bus.proofs.Words.{may_restart, ◌≡◌}
use Rattle.mdb_bus.proofs.counts.may_restart.Given as goal

abbrev pub invariant-loop-message : goal.invariant-loop-message
invariant-loop-message l =
    record {
      next : (goal.iterator-loop-message).can_next l.message-iterator;
      finite : (goal.iterator-loop-message).is_finite l.message-iterator;
      same : may_restart l.list.messages ≡ may_restart l.message-iterator;
    }
