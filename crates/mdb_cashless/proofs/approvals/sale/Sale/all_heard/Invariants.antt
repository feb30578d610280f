-- Hearing the rest from here leads to the same sale as hearing all messages from the start.
use Rattle.mdb_cashless.proofs.Words.{◌≡◌, sale_all_heard}
use Rattle.mdb_cashless.proofs.approvals.sale.Sale.all_heard.Given as goal

abbrev pub invariant-loop-message : goal.invariant-loop-message
invariant-loop-message l =
    record {
      next : (goal.iterator-loop-message).can_next l.message-iterator;
      finite : (goal.iterator-loop-message).is_finite l.message-iterator;
      sale : sale_all_heard l.message-iterator l.sale ≡ sale_all_heard l.fn.messages l.fn.self;
    }
