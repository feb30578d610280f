-- The numbers of rows and stretches follow one another.
use Rattle.mdb_surveyor.proofs.Parts.{in_order}
use Rattle.mdb_surveyor.proofs.laws.parts.rows_are_of_stretches_or_faults.Goals as goal

pub returns : goal.returns
returns c = in_order
