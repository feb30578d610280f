-- How deep an answer nests: six objects at most.
use Rattle.mdb_json.proofs.Words.{ALL, Account, Base, DEVICES, Device, Extended, List, No, None, Option, Outcome, Profile, Report, Scope, Some, Untimely, Yes, account_member, accounts_data, arith, depth, device_data, device_decimals, device_member, devices_data, filter, keeps, offence_data, outcome_data, places_data, profile_of, refl, untimely_data, yes_by, ℕ, ◌≡◌, ◌≤◌}
use Rattle.serde_json.specs.Read.{max_depth}
use Rattle.mdb_json.proofs.Objects.{one_deeper}

of_places : (places : Option ℕ) → depth (places_data places) ≡ 0
of_places (Some places) = refl
of_places None = refl

of_accounts : (accounts : List Account) (which : Device)
    → depth (accounts_data accounts which) ≤ 3
of_accounts accounts which =
    one_deeper 2 (account_member accounts) (filter (keeps which) ALL)
    (λ name. omega arith)

of_device : (scope : Scope) (report : Report) (which : Device)
    → depth (device_data scope report which) ≤ 4
of_device scope report which =
    omega (arith, of_accounts report.accounts which, of_places (device_decimals which report))

of_devices : (scope : Scope) (report : Report) → depth (devices_data scope report) ≤ 5
of_devices scope report =
    one_deeper 4 (device_member scope report) DEVICES (of_device scope report)

of_untimely : (counts : Option Untimely) → depth (untimely_data counts) ≤ 1
of_untimely (Some counts) = omega arith
of_untimely None = omega arith

of_yes : (profile : Profile) (scope : Scope) (report : Report)
    → depth (yes_by profile scope report) ≤ max_depth
of_yes Base scope report = omega (arith, of_devices scope report)
of_yes Extended scope report =
    omega (arith, of_devices scope report, of_untimely report.untimely)

pub of_outcome : (scope : Scope) (outcome : Outcome)
    → depth (outcome_data scope outcome) ≤ max_depth
of_outcome scope (Yes report) = of_yes (profile_of scope.begins) scope report
of_outcome scope (No offence) =
    let flat : depth (offence_data (profile_of scope.begins) offence) ≡ 1 = refl in
    omega (arith, flat)
