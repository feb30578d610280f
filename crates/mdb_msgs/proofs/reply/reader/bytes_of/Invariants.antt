-- The bytes so far are those of the messages so far, and they fit a reply.
use Rattle.mdb_msgs.proofs.Words.{◌≡◌, ◌≤◌, length, take, flat_map, reader_msg_bytes}
use Rattle.mdb_msgs.proofs.reply.reader.bytes_of.Given as goal

abbrev pub invariant-loop-message : goal.invariant-loop-message
invariant-loop-message l = record {
  spelled : l.bytes.items ≡ flat_map (reader_msg_bytes l.id l.text)
      (take l.message-index l.messages);
  fits : length l.bytes.items ≤ 35;
}
