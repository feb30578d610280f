-- The count is that of the bytes of the messages so far, at most two for each.
use Rattle.mdb_msgs.proofs.Words.{◌≡◌, ◌*◌, ◌≤◌, length, take, flat_map, changer_msg_bytes}
use Rattle.mdb_msgs.proofs.reply.changer.count_of.Given as goal

abbrev pub invariant-loop-message : goal.invariant-loop-message
invariant-loop-message l = record {
  counted : l.count ≡ length (flat_map changer_msg_bytes (take l.message-index l.messages));
  fits : l.count ≤ 2 * l.message-index;
}
