-- No identification came so far, so that of the list is that of the rest.
use Rattle.mdb_msgs.proofs.Words.{◌≡◌, length, replicate, messages_of, StandAsMessages}
use Rattle.mdb_msgs.proofs.reply.reader.ReaderList.id.Given as goal

abbrev pub invariant-loop-message : goal.invariant-loop-message
invariant-loop-message l = record {
  stand : StandAsMessages l.self-inside.reading l.rest;
  same : l.self.id ≡ (messages_of l.self-inside.reading l.rest).id;
  blank : l.id ≡ replicate 29 0;
}

abbrev pub decreases-loop-message : goal.decreases-loop-message
decreases-loop-message l = length l.rest
