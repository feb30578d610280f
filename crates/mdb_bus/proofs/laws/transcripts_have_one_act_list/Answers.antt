-- A row leads to one step at most, so the rows divide into acts in one way.
use Rattle.mdb_bus.proofs.OneActList.{one_act_list}
use Rattle.mdb_bus.proofs.laws.transcripts_have_one_act_list.Goals as goal

pub returns : goal.returns
returns c scope = one_act_list scope (c.grammar.ensures scope)
