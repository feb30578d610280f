-- How far from 0 the sums of a report are, and how many silences, rows out of their time and
-- amounts without a value it has. So reports can be added up.
use Rattle.std.specs.Prelude.{◌≤◌, ℕ}
use Rattle.std.specs.Option.{ForSome}
use Rattle.mdb_msgs.specs.declared.command.Device.{Device}
use Rattle.mdb_bus.specs.ExtendedTimes.{AreFew}
use Rattle.mdb_follow.specs.declared.account_name.AccountName.{AccountName}
use Rattle.mdb_follow.specs.declared.report.Report.{Report}
use Rattle.mdb_follow.specs.Limits.{IsAccountWithin}
use Rattle.mdb_follow.specs.Report.{device_report, device_unvalued}
use Rattle.mdb_follow.specs.SilencesKept.{AreAtMost}
use Rattle.mdb_follow.specs.AccountNames.{account_of}

-- all ends of a report's ranges are at most so far from 0, and so are its counts
pub record IsReportWithin (limit : ℕ) (report : Report) : Type 0 where
  pub accounts : (account : AccountName) → IsAccountWithin limit (account_of account report)
  pub asks : (device : Device) → AreAtMost limit (device_report device report).asks
  pub untimely : ForSome report.untimely (AreFew limit)
  pub unvalued : (device : Device) → device_unvalued device report ≤ limit
