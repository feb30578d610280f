-- What totals come to with a report more.
use Rattle.mdb_surveyor.proofs.Words.{arith, refl, subst, ◌≡◌, ◌+◌, ◌≤◌, ℕ, Option, Some, None, ints, Device, Account, Range, Report, IsAccountWithin, IsRangeWithin, IsReportWithin, device_silences, device_unvalued, account_of, few-times, Totals, AreWithin, added_account, added_range, added_untimely, total_of, total_silences, total_unvalued, untimely_of_both, with_report}
use Rattle.std.proofs.lemmas.Option.{same_Some}
use Rattle.std.specs.Option.{ForSome}
use Rattle.mdb_bus.specs.declared.untimely.Untimely.{Untimely}
use Rattle.mdb_bus.specs.ExtendedTimes.{AreFew}
use Rattle.mdb_follow.specs.declared.account_name.AccountName.{AccountName}
use Rattle.mdb_follow.proofs.Accounts.{listed}
use Rattle.mdb_follow.proofs.Told.{listed as by-device}

-- by account, and by device
pub account_sums : (totals : Totals) (report : Report) (account : AccountName)
    → total_of account (with_report totals report)
    ≡ added_account (total_of account totals) (account_of account report)
account_sums totals report =
    listed (λ account. added_account (total_of account totals) (account_of account report))

pub silence_sums : (totals : Totals) (report : Report) (device : Device)
    → total_silences device (with_report totals report)
    ≡ total_silences device totals + device_silences device report
silence_sums totals report =
    by-device (λ device. total_silences device totals + device_silences device report) 0

pub unvalued_sums : (totals : Totals) (report : Report) (device : Device)
    → total_unvalued device (with_report totals report)
    ≡ total_unvalued device totals + device_unvalued device report
unvalued_sums totals report =
    by-device (λ device. total_unvalued device totals + device_unvalued device report) 0

-- how far from 0 they are then
range_within : (limit more : ℕ) (one other : Range) → IsRangeWithin limit one
    → IsRangeWithin more other → IsRangeWithin (limit + more) (added_range one other)
range_within limit more one other first second = search (arith, ints)

account_within : (limit more : ℕ) (one other : Account) → IsAccountWithin limit one
    → IsAccountWithin more other → IsAccountWithin (limit + more) (added_account one other)
account_within limit more one other first second = search (range_within, arith)

-- and how many rows came out of their time
few_added : (limit more : ℕ) (one other : Untimely) → AreFew limit one → AreFew more other
    → AreFew (limit + more) (added_untimely one other)
few_added limit more one other first second = search arith

few_of_both : (limit more : ℕ) (one other : Option Untimely) → ForSome one (AreFew limit)
    → ForSome other (AreFew more) → ForSome (untimely_of_both one other) (AreFew (limit + more))
few_of_both limit more (Some one) (Some other) first second counts is =
    subst (AreFew (limit + more)) (same_Some (added_untimely one other) counts is)
    (few_added limit more one other (first one refl) (second other refl))
few_of_both limit more (Some one) None first second counts is =
    few-times refl limit (limit + more) (omega arith) first counts is
few_of_both limit more None other first second counts is =
    few-times refl more (limit + more) (omega arith) second counts is

pub with_within : (limit more : ℕ) (totals : Totals) (report : Report) → AreWithin limit totals
    → IsReportWithin more report → report.rows ≤ more
    → AreWithin (limit + more) (with_report totals report)
with_within limit more totals report within is few = record {
  rows = omega (arith, within.rows, few);
  accounts = λ account. rw (account_sums totals report account)
      (account_within limit more (total_of account totals) (account_of account report)
      (within.accounts account) (is.accounts account));
  silences = λ device. rw (silence_sums totals report device)
      (omega (arith, within.silences device, (is.asks device).0));
  untimely =
      few_of_both limit more totals.untimely report.untimely within.untimely is.untimely;
  unvalued = λ device. rw (unvalued_sums totals report device)
      (omega (arith, within.unvalued device, is.unvalued device));
}
