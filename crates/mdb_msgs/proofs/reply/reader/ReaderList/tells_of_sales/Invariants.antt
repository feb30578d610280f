-- No message so far tells of a session or sale, so the list does where the rest does.
use Rattle.mdb_msgs.proofs.Words.{◌≡◌, length, list_any, is_kept, messages_of, StandAsMessages}
use Rattle.mdb_msgs.proofs.reply.reader.ReaderList.tells_of_sales.Given as goal

abbrev pub invariant-loop-message : goal.invariant-loop-message
invariant-loop-message l = record {
  stand : StandAsMessages l.self-inside.reading l.rest;
  same : list_any is_kept l.self.messages ≡ list_any is_kept (messages_of l.self-inside.reading
      l.rest).messages;
}

abbrev pub decreases-loop-message : goal.decreases-loop-message
decreases-loop-message l = length l.rest
