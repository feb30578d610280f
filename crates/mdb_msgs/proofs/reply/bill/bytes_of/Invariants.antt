-- The bytes so far are those of the messages so far, at most one for each.
use Rattle.mdb_msgs.proofs.Words.{◌≡◌, ◌≤◌, length, take, flat_map, bill_msg_bytes}
use Rattle.mdb_msgs.proofs.reply.bill.bytes_of.Given as goal

abbrev pub invariant-loop-message : goal.invariant-loop-message
invariant-loop-message l = record {
  spelled : l.bytes.items ≡ flat_map bill_msg_bytes (take l.message-index l.messages);
  fits : length l.bytes.items ≤ l.message-index;
}
