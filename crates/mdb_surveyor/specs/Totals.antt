-- The sums of the stretches' ranges and counts (this profile).
use Rattle.std.specs.Prelude.{◌+◌, ◌^◌, ◌≤◌, ◌+ℤ◌, ℕ, List, [], ◌∷◌, Option, Some, None, get_or, map}
use Rattle.std.specs.Option.{ForSome}
use Rattle.mdb_msgs.specs.declared.command.Device.{Device}
use Rattle.mdb_bus.specs.declared.untimely.Untimely.{Untimely}
use Rattle.mdb_bus.specs.ExtendedTimes.{AreFew}
use Rattle.mdb_follow.specs.declared.account.Account.{Account}
use Rattle.mdb_follow.specs.declared.account_name.AccountName.{AccountName}
use Rattle.mdb_follow.specs.declared.account_name.TheConstants.AccountName.{ALL}
use Rattle.mdb_follow.specs.declared.range.Range.{Range}
use Rattle.mdb_follow.specs.declared.report.Report.{Report}
use Rattle.mdb_follow.specs.declared.report.TheConstants.Report.{DEVICES}
use Rattle.mdb_follow.specs.ReportedDevices.{device_place}
use Rattle.mdb_follow.specs.Limits.{IsAccountWithin}
use Rattle.mdb_follow.specs.Ranges.{no_account}
use Rattle.mdb_follow.specs.ReportLimits.{IsReportWithin}
use Rattle.mdb_follow.specs.Report.{device_silences, device_unvalued}
use Rattle.mdb_follow.specs.AccountNames.{account_in, account_of}
use Rattle.mdb_surveyor.specs.declared.stretch.Ended.{Ended}
use Rattle.mdb_surveyor.specs.declared.totals.Totals.{Totals}

-- a range and a further one: the sum goes from both least values to both greatest
abbrev pub added_range : Range → Range → Range
added_range one other = record {
  least = one.least +ℤ other.least;
  greatest = one.greatest +ℤ other.greatest;
}

abbrev pub added_account : Account → Account → Account
added_account one other = record {
  device = added_range one.device other.device;
  controller = added_range one.controller other.controller;
  difference = added_range one.difference other.difference;
}

-- counts of rows out of their time and further ones
abbrev pub added_untimely : Untimely → Untimely → Untimely
added_untimely one other = record {
  controller = one.controller + other.controller;
  changer = one.changer + other.changer;
  bill = one.bill + other.bill;
  cashless = one.cashless + other.cashless;
  cashless2 = one.cashless2 + other.cashless2;
}

-- the same of two parts, of which each may count such rows or not
abbrev pub untimely_of_both : Option Untimely → Option Untimely → Option Untimely
untimely_of_both (Some one) (Some other) = Some (added_untimely one other)
untimely_of_both (Some one) None = Some one
untimely_of_both None counts = counts

-- what totals have of an account, and of a device
abbrev pub total_of : AccountName → Totals → Account
total_of account totals = account_in account totals.accounts

abbrev pub total_silences : Device → Totals → ℕ
total_silences device totals = get_or totals.silences (device_place device) 0

abbrev pub total_unvalued : Device → Totals → ℕ
total_unvalued device totals = get_or totals.unvalued (device_place device) 0

-- totals with a report more
abbrev pub with_report : Totals → Report → Totals
with_report totals report = record {
  rows = totals.rows + report.rows;
  accounts =
      map (λ account. added_account (total_of account totals) (account_of account report)) ALL;
  silences =
      map (λ device. total_silences device totals + device_silences device report) DEVICES;
  untimely = untimely_of_both totals.untimely report.untimely;
  unvalued =
      map (λ device. total_unvalued device totals + device_unvalued device report) DEVICES;
}

-- the totals of no stretch
abbrev pub no_totals : Totals
no_totals = record {
  rows = 0;
  accounts = map (λ account. no_account) ALL;
  silences = map (λ device. 0) DEVICES;
  untimely = None;
  unvalued = map (λ device. 0) DEVICES;
}

-- the totals of the stretches that faults have ended
abbrev pub totals_of : List Ended → Totals
totals_of [] = no_totals
totals_of (ended ∷ earlier) = with_report (totals_of earlier) ended.stretch.report

-- No sum is further than this from 0, and no count is greater. This serves private functions.
pub record AreWithin (limit : ℕ) (totals : Totals) : Type 0 where
  pub rows : totals.rows ≤ limit
  pub accounts : (account : AccountName) → IsAccountWithin limit (total_of account totals)
  pub silences : (device : Device) → total_silences device totals ≤ limit
  pub untimely : ForSome totals.untimely (AreFew limit)
  pub unvalued : (device : Device) → total_unvalued device totals ≤ limit

-- Totals and a report can be added. This serves private functions too.
pub record CanBeAdded (totals : Totals) (report : Report) : Type 0 where
  pub totals_within : AreWithin (2 ^ 61) totals
  pub report_within : IsReportWithin (2 ^ 61) report
  pub few_rows : report.rows ≤ 2 ^ 61
