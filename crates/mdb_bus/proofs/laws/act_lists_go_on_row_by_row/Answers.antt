-- An act list of one row more goes on from that of the rows before, by the grammar's steps.
use Rattle.mdb_bus.proofs.OneActList.{goes_on_from}
use Rattle.mdb_bus.proofs.laws.act_lists_go_on_row_by_row.Goals as goal

pub returns : goal.returns
returns c scope = goes_on_from scope (c.grammar.ensures scope)
