-- An act that answers or repeats a reply comes after that reply, which its command can have.
use Rattle.mdb_bus.proofs.Sound.{names_a_reply}
use Rattle.mdb_bus.proofs.laws.acts_name_replies_of_their_commands.Goals as goal

pub returns : goal.returns
returns c = names_a_reply
