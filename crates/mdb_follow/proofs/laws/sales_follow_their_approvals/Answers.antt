-- In a run each VEND SUCCESS is a step of its reader, whose view allows approved sales alone.
use Rattle.mdb_follow.proofs.Sales.{sales_follow}
use Rattle.mdb_follow.proofs.laws.sales_follow_their_approvals.Goals as goal

pub returns : goal.returns
returns c = sales_follow
