-- The rows have a report without further devices, too, and sales always follow approvals.
use Rattle.mdb_verdict.proofs.laws.yeses_stay_without_further_devices.Goals as goal
use Rattle.mdb_verdict.proofs.Ends.{whole_as}

pub returns : goal.returns
returns c less more limit records one leaves is =
    let other =
    c.reports_go_on_without_further_devices.ensures less more is.rows one leaves is.has.0 in (
      other.0,
      whole_as is (other.1, c.sales_follow_their_approvals.ensures more is.rows),
      other.2,
    )
