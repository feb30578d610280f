-- Data that are no reply have a leftmost place where no message stands, or another fault.
use Rattle.mdb_msgs.proofs.SomeReply.{decided}
use Rattle.mdb_msgs.proofs.laws.data_is_a_reply_or_has_a_fault.Goals as goal

pub returns : goal.returns
returns c = decided
