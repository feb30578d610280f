-- The messages so far are those that the bytes before this place are read as.
use Rattle.mdb_msgs.proofs.Words.{drop, bill_msg_bytes, IsBillMsg}
use Rattle.mdb_msgs.proofs.ListReading.{Going}
use Rattle.mdb_msgs.proofs.reply.bill.read_messages.Given as goal

abbrev pub invariant-loop-byte : goal.invariant-loop-byte
invariant-loop-byte l = Going bill_msg_bytes (IsBillMsg l.is_extended) l.bytes l.messages.items
    (drop l.byte-index l.bytes)
