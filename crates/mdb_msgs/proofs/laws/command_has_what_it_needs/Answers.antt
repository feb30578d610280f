-- The first two bytes of a command need the length that its block has.
use Rattle.mdb_msgs.proofs.Prefixes.{whole}
use Rattle.mdb_msgs.proofs.laws.command_has_what_it_needs.Goals as goal

pub returns : goal.returns
returns c = whole
