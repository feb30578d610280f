-- Only the first rule broken by their order counts, so a row has one fault.
use Rattle.mdb_bus.proofs.OneFault.{one_fault}
use Rattle.mdb_bus.proofs.laws.rows_have_one_fault.Goals as goal

pub returns : goal.returns
returns c = one_fault
