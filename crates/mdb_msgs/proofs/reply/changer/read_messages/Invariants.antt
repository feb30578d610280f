-- The messages so far are read from the bytes before the rest, which gets shorter.
use Rattle.mdb_msgs.proofs.Words.{length, changer_msg_bytes, IsChangerMsg}
use Rattle.mdb_msgs.proofs.ListReading.{Going}
use Rattle.mdb_msgs.proofs.reply.changer.read_messages.Given as goal

abbrev pub invariant-loop-first : goal.invariant-loop-first
invariant-loop-first l = Going changer_msg_bytes IsChangerMsg l.bytes l.messages.items l.rest

abbrev pub decreases-loop-first : goal.decreases-loop-first
decreases-loop-first l = length l.rest
