-- Numbers far from the limits of their types.
use Rattle.mdb_surveyor.proofs.Words.{arith, refl, ◌≡◌, ◌+◌, ◌*◌, ◌^◌, ◌≤◌, ℕ, ints, Account, Range, Report, IsAccountWithin, IsRangeWithin, account_of, device_report, IsReportWithin, few-times, FaultCounts, Totals, AreWithin, CanBeAdded, total_of, with_report}
use Rattle.mdb_follow.proofs.Kept.{at-most-weaker}
use Rattle.mdb_surveyor.specs.Counts.{AreFew}
use Rattle.mdb_surveyor.proofs.Sums.{with_within}

range_weaker : (limit more : ℕ) (range : Range) → limit ≤ more → IsRangeWithin limit range
    → IsRangeWithin more range
range_weaker limit more range le is = search (arith, ints)

account_weaker : (limit more : ℕ) (account : Account) → limit ≤ more
    → IsAccountWithin limit account → IsAccountWithin more account
account_weaker limit more account le is = search (range_weaker, arith)

pub totals_weaker : (limit more : ℕ) (totals : Totals) → limit ≤ more → AreWithin limit totals
    → AreWithin more totals
totals_weaker limit more totals le is = record {
  rows = omega (arith, le, is.rows);
  accounts =
      λ account. account_weaker limit more (total_of account totals) le (is.accounts account);
  silences = λ device. omega (arith, le, is.silences device);
  untimely = few-times refl limit more le is.untimely;
  unvalued = λ device. omega (arith, le, is.unvalued device);
}

report_weaker : (limit more : ℕ) (report : Report) → limit ≤ more → IsReportWithin limit report
    → IsReportWithin more report
report_weaker limit more report le is = record {
  accounts =
      λ account. account_weaker limit more (account_of account report) le (is.accounts account);
  asks = λ device. at-most-weaker (device_report device report).asks limit more le
      (is.asks device);
  untimely = few-times refl limit more le is.untimely;
  unvalued = λ device. omega (arith, le, is.unvalued device);
}

pub few_weaker : (most more : ℕ) (counts : FaultCounts) → most ≤ more → AreFew most counts
    → AreFew more counts
few_weaker most more counts le is = search arith

-- totals of so many rows, and a report on further ones
pub can_be_added : (before rows : ℕ) (totals : Totals) (report : Report)
    → before + rows ≤ 100000000 → AreWithin (before * 2 ^ 32) totals
    → IsReportWithin (rows * 2 ^ 32) report → report.rows ≡ rows → CanBeAdded totals report
can_be_added before rows totals report few within is counted = record {
  totals_within = totals_weaker (before * 2 ^ 32) (2 ^ 61) totals (omega (arith, few)) within;
  report_within = report_weaker (rows * 2 ^ 32) (2 ^ 61) report (omega (arith, few)) is;
  few_rows = omega (arith, few, counted);
}

pub added_within : (before rows next : ℕ) (totals : Totals) (report : Report)
    → before + rows ≤ next → AreWithin (before * 2 ^ 32) totals
    → IsReportWithin (rows * 2 ^ 32) report → report.rows ≡ rows
    → AreWithin (next * 2 ^ 32) (with_report totals report)
added_within before rows next totals report le within is counted =
    totals_weaker (before * 2 ^ 32 + rows * 2 ^ 32) (next * 2 ^ 32) (with_report totals report)
    (omega (arith, le))
    (with_within (before * 2 ^ 32) (rows * 2 ^ 32) totals report within is
    (omega (arith, counted)))
