-- No message so far is long.
use Rattle.mdb_page.proofs.Words.{list_any, ◌≡◌}
use Rattle.mdb_msgs.specs.Reader.{has_long}
use Rattle.mdb_page.proofs.acts.have_long.Given as goal

abbrev pub invariant-loop-message : goal.invariant-loop-message
invariant-loop-message l =
    record {
      next : (goal.iterator-loop-message).can_next l.message-iterator;
      finite : (goal.iterator-loop-message).is_finite l.message-iterator;
      same : list_any has_long l.fn.list.messages ≡ list_any has_long l.message-iterator;
    }
