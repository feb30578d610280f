-- No message so far has options.
use Rattle.mdb_page.proofs.Words.{has_options, list_any, ◌≡◌}
use Rattle.mdb_page.proofs.acts.have_options.Given as goal

abbrev pub invariant-loop-message : goal.invariant-loop-message
invariant-loop-message l =
    record {
      next : (goal.iterator-loop-message).can_next l.message-iterator;
      finite : (goal.iterator-loop-message).is_finite l.message-iterator;
      same : list_any has_options l.fn.list.messages ≡ list_any has_options l.message-iterator;
    }
