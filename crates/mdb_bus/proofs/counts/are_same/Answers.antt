-- The test of two messages decides whether they are the same, so it decides that of lists.
use Rattle.std.proofs.lemmas.Slice.Eq.{slice_eq-Decides}
use Rattle.mdb_msgs.proofs.ReaderWriting.{same_again, told_same}
use Rattle.mdb_bus.proofs.counts.are_same.Goals as goal

pub returns : goal.returns
returns c = slice_eq-Decides (λ a b. (told_same a b, same_again a b)) _ _ _ c.eq.ensures
