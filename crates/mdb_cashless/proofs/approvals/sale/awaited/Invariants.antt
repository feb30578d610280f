-- No message so far ended the wait, so the rest adds what all messages add.
use Rattle.mdb_cashless.proofs.Words.{◌≡◌, Awaited, approved_to}
use Rattle.mdb_cashless.proofs.approvals.sale.awaited.Given as goal

abbrev pub invariant-loop-message : goal.invariant-loop-message
invariant-loop-message l =
    record {
      next : (goal.iterator-loop-message).can_next l.message-iterator;
      finite : (goal.iterator-loop-message).is_finite l.message-iterator;
      rest : approved_to l.config Awaited l.message-iterator
          ≡ approved_to l.config Awaited l.fn.messages;
    }
