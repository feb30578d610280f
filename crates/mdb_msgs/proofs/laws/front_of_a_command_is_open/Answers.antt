-- A front of a command is shorter than its first bytes need, so it needs more.
use Rattle.mdb_msgs.proofs.Fronts.{front_is_open}
use Rattle.mdb_msgs.proofs.laws.front_of_a_command_is_open.Goals as goal

pub returns : goal.returns
returns c = front_is_open
