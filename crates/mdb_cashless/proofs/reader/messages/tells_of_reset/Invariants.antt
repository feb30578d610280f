-- No message so far is a reset message, so one is where one of the rest is.
use Rattle.mdb_cashless.proofs.Words.{◌≡◌, list_any, is_reset, messages_of, part_of}
use Rattle.mdb_cashless.proofs.reader.messages.tells_of_reset.Given as goal

abbrev pub invariant-loop-message : goal.invariant-loop-message
invariant-loop-message l =
    record {
      next : (goal.iterator-loop-message).can_next l.message-iterator;
      finite : (goal.iterator-loop-message).is_finite l.message-iterator;
      same : list_any (λ message. is_reset (part_of message)) (messages_of l.reply)
          ≡ list_any (λ message. is_reset (part_of message)) l.message-iterator;
    }
