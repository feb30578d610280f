-- The rows without the last one have an act list, and so does each front.
use Rattle.mdb_bus.proofs.OneActList.{fronts}
use Rattle.mdb_bus.proofs.laws.fronts_of_act_lists_have_act_lists.Goals as goal

pub returns : goal.returns
returns c scope = fronts scope (c.grammar.ensures scope)
