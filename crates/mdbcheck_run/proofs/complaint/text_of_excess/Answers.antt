-- The line on too many rows has the limit in digits.
use Rattle.std.proofs.Common.{refl}
use Rattle.std.specs.Fmt.{digits}
use Rattle.mdbcheck_run.proofs.complaint.text_of_excess.Goals as goal

pub returns : goal.returns
unfolding digits
returns c = refl
