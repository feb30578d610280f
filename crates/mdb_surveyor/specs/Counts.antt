-- How many faults a survey has (this profile).
use Rattle.std.specs.Prelude.{◌==◌, ◌≤◌, ℕ, Bool, true, false, List, length, map, count_by, if◌then◌else◌}
use Rattle.mdb_bus.specs.declared.fault.Blame.{Blame}
use Rattle.mdb_bus.specs.declared.fault.Blame.TheVariants.{Controller, Changer, Bill, Cashless, Cashless2, Other}
use Rattle.mdb_bus.specs.declared.fault.Rule.{Rule}
use Rattle.mdb_bus.specs.declared.fault.Rule.TheVariants as rules
use Rattle.mdb_follow.specs.declared.offence.Offence.{Offence}
use Rattle.mdb_surveyor.specs.declared.counts.FaultCounts.{FaultCounts}
use Rattle.mdb_surveyor.specs.declared.stretch.Ended.{Ended}

-- whether a rule is `Profile`, which is nobody's fault
abbrev pub is_profile_rule : Rule → Bool
is_profile_rule rules.Profile = true
is_profile_rule broken = false

abbrev pub is_profile : Offence → Bool
is_profile fault = is_profile_rule fault.rule

-- the place of whom a fault may be blamed on, from 0
abbrev pub blame_place : Blame → ℕ
blame_place Controller = 0
blame_place Changer = 1
blame_place Bill = 2
blame_place Cashless = 3
blame_place Cashless2 = 4
blame_place Other = 5

-- whether a fault counts for somebody: it is blamed on them, and is no `Profile`
abbrev pub counts_for : Blame → Offence → Bool
counts_for blamed fault =
    if is_profile fault then false else blame_place fault.blame == blame_place blamed

-- how many faults there are: all, those that count for each, and those that count for nobody
abbrev pub counts_of_faults : List Offence → FaultCounts
counts_of_faults faults = record {
  all = length faults;
  controller = count_by (counts_for Controller) faults;
  changer = count_by (counts_for Changer) faults;
  bill = count_by (counts_for Bill) faults;
  cashless = count_by (counts_for Cashless) faults;
  cashless_2 = count_by (counts_for Cashless2) faults;
  other = count_by (counts_for Other) faults;
  profile = count_by is_profile faults;
}

-- those of a survey
abbrev pub counts_of_ended : List Ended → FaultCounts
counts_of_ended ended = counts_of_faults (map (λ it. it.fault) ended)

-- No count is greater. This serves private functions.
pub record AreFew (most : ℕ) (counts : FaultCounts) : Type 0 where
  pub all : counts.all ≤ most
  pub controller : counts.controller ≤ most
  pub changer : counts.changer ≤ most
  pub bill : counts.bill ≤ most
  pub cashless : counts.cashless ≤ most
  pub cashless_2 : counts.cashless_2 ≤ most
  pub other : counts.other ≤ most
  pub profile : counts.profile ≤ most
