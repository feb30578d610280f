-- The line on a text that is too long has the limit in digits.
use Rattle.std.proofs.Common.{ap, sym}
use Rattle.std.specs.Fmt.{digits}
use Rattle.mdbcheck_run.specs.Complaint.{cause_line}
use Rattle.mdbcheck_run.proofs.complaint.text_of_cause.Goals as goal

pub returns-in-OverLimit : goal.returns-in-OverLimit
unfolding digits
returns-in-OverLimit c = sym (ap cause_line c.in-OverLimit.is)
