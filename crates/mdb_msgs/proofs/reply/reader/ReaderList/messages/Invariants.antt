-- The list has the messages taken so far and those of the rest, and there is room for all.
use Rattle.mdb_msgs.proofs.Words.{◌≡◌, ◌≤◌, length, messages_of, StandAsMessages, ◌+◌, ◌++◌}
use Rattle.mdb_msgs.proofs.reply.reader.ReaderList.messages.Given as goal

abbrev pub invariant-loop-message : goal.invariant-loop-message
invariant-loop-message l = record {
  stand : StandAsMessages l.self-inside.reading l.rest;
  taken : l.self.messages ≡ l.messages.items ++ (messages_of l.self-inside.reading l.rest).messages;
  room : length l.messages.items + length l.rest ≤ 35;
}

abbrev pub decreases-loop-message : goal.decreases-loop-message
decreases-loop-message l = length l.rest
