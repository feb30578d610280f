-- An answer has one reading, and from that one setup follows.
use Rattle.mdb_msgs.proofs.SetupData.{one_setup}
use Rattle.mdb_msgs.proofs.laws.answer_tells_one_setup.Goals as goal

pub returns : goal.returns
returns c = one_setup
