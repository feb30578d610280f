-- The best ways of each device, for a goal, in a recording from power-on. This serves private
-- functions.
use Rattle.std.specs.Prelude.{◌≡◌, ◌<◌, ◌+◌, ◌^◌, ℕ, List, ◌∷◌, ◌++◌, length, if◌then◌else◌}
use Rattle.mdb_words.specs.declared.event.Event.{Event}
use Rattle.mdb_msgs.specs.declared.command.Device.{Device}
use Rattle.mdb_msgs.specs.declared.command.Device.TheVariants as devices
use Rattle.mdb_msgs.specs.declared.command.ReaderUnit.TheVariants as units
use Rattle.mdb_bus.specs.declared.act.Act.{Act}
use Rattle.mdb_bus.specs.declared.scope.Beginning.TheVariants.{PowerOn}
use Rattle.mdb_bus.specs.declared.scope.Profile.{Profile}
use Rattle.mdb_bus.specs.ActLists.{Piece, Whole, acts_of, events_of}
use Rattle.mdb_follow.specs.declared.account_name.AccountName.{AccountName}
use Rattle.mdb_run_search.specs.declared.explain.all_paths.AllPaths.{AllPaths}
use Rattle.mdb_run_search.specs.declared.explain.best.Weight.{Weight}
use Rattle.mdb_run_search.specs.declared.explain.best.Weight.TheVariants as weights
use Rattle.mdb_run_search.specs.declared.explain.paths.Paths.{Paths}
use Rattle.mdb_follow.specs.declared.goal.AccountSide.{AccountSide}
use Rattle.mdb_follow.specs.declared.goal.Bound.{Bound}
use Rattle.mdb_follow.specs.declared.goal.Goal.{Goal}
use Rattle.mdb_follow.specs.AccountNames.{account_device, account_slot}
use Rattle.mdb_follow.specs.Choosing.{Choices, Follows}
use Rattle.mdb_msgs.specs.Devices.{same_device}
use Rattle.mdb_run_search.specs.declared.mark.Mark.{Mark}
use Rattle.mdb_run_search.specs.Marks.{own_marks}
use Rattle.mdb_follow.specs.ReportedDevices.{device_place}
use Rattle.mdb_follow.specs.Machines.{StateOf, machine_of}
use Rattle.mdb_follow.specs.Sides.{FactsOf, code_of, codes_of, stands_for}
use Rattle.mdb_follow.specs.Sums.{Sums}
use Rattle.mdb_run_search.specs.inner.Merges.{IsMergeBelow}
use Rattle.mdb_run_search.specs.inner.Paths.{AreEntriesWithin, ArePaths, IsAsGood}
use Rattle.mdb_run_search.specs.inner.Weights.{weigh}

-- what the gains of a device count for an end of a range of an account: nothing, where the account
-- is another device's
abbrev pub weight_at : AccountSide → Bound → AccountName → Device → Weight
weight_at side bound account device =
    if same_device (account_device account) device
    then weights.Account (account_slot account) side bound
    else weights.Nothing

-- and for a goal
abbrev pub weight_for : Goal → Device → Weight
weight_for goal device = weight_at goal.side goal.bound goal.account device

-- the paths of a device
abbrev pub paths_in : AllPaths → (device : Device) → Paths (FactsOf device) (codes_of device)
paths_in all devices.Changer = all.changer
paths_in all devices.Bill = all.bill
paths_in all (devices.Reader units.First) = all.first_reader
paths_in all (devices.Reader units.Second) = all.second_reader

-- They are those through the acts of pieces.
abbrev pub ArePathsOf : Profile → Goal → List Piece → AllPaths → Device → Type 0
ArePathsOf profile goal pieces all device =
    ArePaths (stands_for (PowerOn profile) device) (code_of device) device
    (machine_of (PowerOn profile) device) (weight_for goal device) all.chains.links.items pieces
    (paths_in all device)

-- and those of each device are
abbrev pub AreAllPaths : Profile → Goal → List Piece → AllPaths → Type 0
AreAllPaths profile goal pieces all = (device : Device) → ArePathsOf profile goal pieces all device

-- the values and the marks of a device's entries are at most so far from 0
abbrev pub AreWithinOf : ℕ → AllPaths → Device → Type 0
AreWithinOf limit all device =
    AreEntriesWithin (codes_of device) limit all.chains.links.items
    (paths_in all device).entries.items

-- and those of all entries are
abbrev pub AreAllWithin : ℕ → AllPaths → Type 0
AreAllWithin limit all = (device : Device) → AreWithinOf limit all device

-- what is kept of a device's facts is what is known after acts, and so it is of each device
abbrev pub AreFactsOf : Profile → List Act → AllPaths → Device → Type 0
AreFactsOf profile acts all device =
    stands_for (PowerOn profile) device (paths_in all device).facts acts

abbrev pub AreAllFacts : Profile → List Act → AllPaths → Type 0
AreAllFacts profile acts all = (device : Device) → AreFactsOf profile acts all device

-- The paths of a device were led over an act that ends at a row.
pub record LeadsPathsOf (goal : Goal) (act : Act) (row : ℕ) (old new : AllPaths) (device : Device)
    : Type 0 where
  pub led : (profile : Profile) (pieces : List Piece) (events : List Event)
      → row ≡ length (events_of pieces ++ events) → ArePathsOf profile goal pieces old device
      → ArePathsOf profile goal (Whole act events ∷ pieces) new device
  pub within : (limit : ℕ) → AreWithinOf limit old device → AreWithinOf (limit + 2 ^ 32) new device

-- those of one device were, and those of each other are what they were
pub record OneLeadsPaths (device : Device) (goal : Goal) (act : Act) (row : ℕ) (old new : AllPaths)
    : Type 0 where
  pub own : LeadsPathsOf goal act row old new device
  pub others : (other : Device) → (other ≡ device → ⊥) → paths_in new other ≡ paths_in old other

-- A device has no way over an act after pieces.
abbrev pub HasNoWay : Profile → List Piece → Act → Device → Type 0
HasNoWay profile pieces act device =
    (choices : Choices (act ∷ acts_of pieces)) (state : StateOf device) (sums : Sums)
    → Follows (machine_of (PowerOn profile) device) (act ∷ acts_of pieces) choices state sums → ⊥

-- a device has a way through the acts of pieces
abbrev pub HasWay : Profile → List Piece → Device → Type 0
HasWay profile pieces device =
    (state : StateOf device) × (sums : Sums) × (choices : Choices (acts_of pieces))
    × Follows (machine_of (PowerOn profile) device) (acts_of pieces) choices state sums

-- Marks are those of a best way of a device through the acts of pieces: each of its ways counts at
-- least as much for the goal, and where it counts the same it has at least as many marks.
pub record AreBestMarks (profile : Profile) (goal : Goal) (pieces : List Piece) (device : Device)
    (marks : List (ℕ × Mark)) : Type 0 where
  pub state : StateOf device
  pub sums : Sums
  pub choices : Choices (acts_of pieces)
  pub way : Follows (machine_of (PowerOn profile) device) (acts_of pieces) choices state sums
  pub are : marks ≡ own_marks device pieces choices
  pub least : (other_state : StateOf device) (other_sums : Sums)
      (other : Choices (acts_of pieces))
      → Follows (machine_of (PowerOn profile) device) (acts_of pieces) other other_state other_sums
      → IsAsGood (weigh (weight_for goal device) sums) (length marks)
      (weigh (weight_for goal device) other_sums) (length (own_marks device pieces other))

-- Marks are those of a best way of each device whose place is below a number, as one list.
pub record AreBestBelow (profile : Profile) (goal : Goal) (pieces : List Piece) (count : ℕ)
    (marks : List (ℕ × Mark)) : Type 0 where
  pub of : Device → List (ℕ × Mark)
  pub best : (device : Device) → device_place device < count
      → AreBestMarks profile goal pieces device (of device)
  pub merge : IsMergeBelow count of marks
