-- By the grammar, a row that breaks a rule leads to no step.
use Rattle.mdb_bus.proofs.OneActList.{ends}
use Rattle.mdb_bus.proofs.laws.rows_that_break_a_rule_end_the_act_list.Goals as goal

pub returns : goal.returns
returns c scope = ends scope (c.grammar.ensures scope)
