-- One byte fixes the length or leaves it to the second, and two always fix it.
use Rattle.mdb_msgs.proofs.Prefixes.{first_bytes}
use Rattle.mdb_msgs.proofs.laws.first_bytes_tell_the_length.Goals as goal

pub returns : goal.returns
returns c = first_bytes
