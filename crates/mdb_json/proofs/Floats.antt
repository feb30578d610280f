-- An answer has no float.
use Rattle.mdb_json.proofs.Words.{ALL, Account, Base, DEVICES, Device, Extended, List, No, None, Option, Outcome, Profile, Report, Scope, Some, Untimely, Yes, account_data, account_member, accounts_data, device_data, device_decimals, device_member, devices_data, false, filter, has_float, keeps, negsuc, outcome_data, places_data, pos, profile_of, range_data, refl, untimely_data, yes_by, yes_data, ℕ, ℤ, ◌≡◌}
use Rattle.serde_json.specs.Find.{is_float, of_integer}
use Rattle.mdb_follow.specs.declared.goal.AccountSide.TheVariants as sides
use Rattle.mdb_follow.specs.declared.range.Range.{Range}
use Rattle.mdb_follow.specs.Ends.{side_range}
use Rattle.mdb_follow.specs.AccountNames.{account_in}
use Rattle.mdb_json.proofs.Objects.{without_float}

no_float : (n : ℤ) → is_float (of_integer n) ≡ false
no_float (pos n) = refl
no_float (negsuc n) = refl

of_range : (range : Range) → has_float (range_data range) ≡ false
of_range range = rw (no_float range.greatest) (rw (no_float range.least) refl)

of_account : (account : Account) → has_float (account_data account) ≡ false
of_account account =
    rw (of_range (side_range sides.Controller account))
    (rw (of_range (side_range sides.Device account))
    (rw (of_range (side_range sides.Difference account)) refl))

pub of_accounts : (accounts : List Account) (which : Device)
    → has_float (accounts_data accounts which) ≡ false
of_accounts accounts which =
    without_float (account_member accounts) (filter (keeps which) ALL)
    (λ name. of_account (account_in name accounts))

of_places : (places : Option ℕ) → has_float (places_data places) ≡ false
of_places (Some places) = refl
of_places None = refl

of_device : (scope : Scope) (report : Report) (which : Device)
    → has_float (device_data scope report which) ≡ false
of_device scope report which =
    rw (of_accounts report.accounts which) (rw (of_places (device_decimals which report)) refl)

of_devices : (scope : Scope) (report : Report) → has_float (devices_data scope report) ≡ false
of_devices scope report =
    without_float (device_member scope report) DEVICES (of_device scope report)

pub of_untimely : (counts : Option Untimely) → has_float (untimely_data counts) ≡ false
of_untimely (Some counts) = refl
of_untimely None = refl

of_yes_by : (profile : Profile) (scope : Scope) (report : Report)
    → has_float (yes_by profile scope report) ≡ false
of_yes_by Base scope report = rw (of_devices scope report) refl
of_yes_by Extended scope report =
    rw (of_untimely report.untimely) (rw (of_devices scope report) refl)

pub of_yes : (scope : Scope) (report : Report) → has_float (yes_data scope report) ≡ false
of_yes scope report = of_yes_by (profile_of scope.begins) scope report

pub of_outcome : (scope : Scope) (outcome : Outcome)
    → has_float (outcome_data scope outcome) ≡ false
of_outcome scope (Yes report) = of_yes scope report
of_outcome scope (No offence) = refl
