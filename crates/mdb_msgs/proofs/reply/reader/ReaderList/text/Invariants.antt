-- No text to display came so far, so that of the list is that of the rest.
use Rattle.mdb_msgs.proofs.Words.{◌≡◌, length, messages_of, StandAsMessages}
use Rattle.mdb_msgs.proofs.reply.reader.ReaderList.text.Given as goal

abbrev pub invariant-loop-message : goal.invariant-loop-message
invariant-loop-message l = record {
  stand : StandAsMessages l.self-inside.reading l.rest;
  same : l.self.text ≡ (messages_of l.self-inside.reading l.rest).text;
}

abbrev pub decreases-loop-message : goal.decreases-loop-message
decreases-loop-message l = length l.rest
