-- ENABLE OPTIONS stands in the first two bytes, whatever comes after them.
use Rattle.mdb_msgs.proofs.Options.{two_tell}
use Rattle.mdb_msgs.proofs.laws.first_two_bytes_tell_enable_options.Goals as goal

pub returns : goal.returns
returns c = two_tell
