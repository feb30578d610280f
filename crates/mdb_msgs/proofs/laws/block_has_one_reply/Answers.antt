-- Bytes have one reading as a command's reply, so a block has one reply.
use Rattle.mdb_msgs.proofs.OneReply.{one_reply}
use Rattle.mdb_msgs.proofs.laws.block_has_one_reply.Goals as goal

pub returns : goal.returns
returns c = one_reply
