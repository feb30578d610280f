-- The bytes so far are those of the messages so far, at most two for each.
use Rattle.mdb_msgs.proofs.Words.{◌≡◌, ◌*◌, ◌≤◌, length, take, flat_map, changer_msg_bytes}
use Rattle.mdb_msgs.proofs.reply.changer.bytes_of.Given as goal

abbrev pub invariant-loop-message : goal.invariant-loop-message
invariant-loop-message l = record {
  spelled : l.bytes.items ≡ flat_map changer_msg_bytes (take l.message-index l.messages);
  fits : length l.bytes.items ≤ 2 * l.message-index;
}
