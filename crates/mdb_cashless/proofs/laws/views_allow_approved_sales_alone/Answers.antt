-- A sale that the view tells of was approved before, or may be older than the recording.
use Rattle.mdb_cashless.proofs.Sales.{sales_may_stand}
use Rattle.mdb_cashless.proofs.laws.views_allow_approved_sales_alone.Goals as goal

pub returns : goal.returns
returns c = sales_may_stand
