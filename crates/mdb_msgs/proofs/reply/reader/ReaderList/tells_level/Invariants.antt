-- No message so far reports the level, so the list does where the rest does.
use Rattle.mdb_msgs.proofs.Words.{◌≡◌, length, list_any, tells_level, messages_of, StandAsMessages}
use Rattle.mdb_msgs.proofs.reply.reader.ReaderList.tells_level.Given as goal

abbrev pub invariant-loop-message : goal.invariant-loop-message
invariant-loop-message l = record {
  stand : StandAsMessages l.self-inside.reading l.rest;
  same : list_any (tells_level l.least) l.self.messages ≡ list_any (tells_level l.least)
      (messages_of l.self-inside.reading l.rest).messages;
}

abbrev pub decreases-loop-message : goal.decreases-loop-message
decreases-loop-message l = length l.rest
