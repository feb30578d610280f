-- Runs of a recording, and those of its end by itself (this profile). Lists of pieces are written
-- newest first, lists of events oldest first.
use Rattle.std.specs.Prelude.{◌≡◌, ◌+◌, ℤ, pos, ◌-ℤ◌, ◌≤ℤ◌, List, [], ◌∷◌, ◌++◌, length}
use Rattle.mdb_words.specs.declared.event.Event.{Event}
use Rattle.mdb_msgs.specs.declared.command.Device.{Device}
use Rattle.mdb_bus.specs.ActLists.{Piece, Whole, events_of}
use Rattle.mdb_bus.specs.Loss.{Loss}
use Rattle.mdb_bus.specs.declared.scope.Beginning.{Beginning}
use Rattle.mdb_bus.specs.declared.scope.Scope.{Scope}
use Rattle.mdb_follow.specs.declared.account.Account.{Account}
use Rattle.mdb_follow.specs.declared.range.Range.{Range}
use Rattle.mdb_follow.specs.Runs.{AllSums, RunGoesOnBy, IsWay, Run, States}
use Rattle.mdb_follow.specs.Sums.{AccountSums, Sums}

-- both sums together
abbrev pub both_accounts : AccountSums → AccountSums → AccountSums
both_accounts one other = record {
  device = one.device + other.device;
  controller = one.controller + other.controller;
}

abbrev pub both_sums : Sums → Sums → Sums
both_sums one other slot = both_accounts (one slot) (other slot)

-- A way goes on through pieces (`later`), from these states and sums after the pieces before.
abbrev pub RunGoesOnThrough : Beginning → Loss → List Piece → List Piece → States → AllSums → States
    → AllSums → Type 0
RunGoesOnThrough begins loss before [] from sums_from states sums =
    (device : Device) → (states device ≡ from device) × (sums device ≡ sums_from device)
RunGoesOnThrough begins loss before (Whole act events ∷ later) from sums_from states sums =
    RunGoesOnBy begins loss (later ++ before) act (length events)
    (RunGoesOnThrough begins loss before later from sums_from) states sums
RunGoesOnThrough begins loss before (piece ∷ later) from sums_from states sums =
    RunGoesOnThrough begins loss before later from sums_from states sums

-- A run of rows passes the end of some rows in front, between two pieces: its way leads through the
-- pieces of these to states and sums, and goes on from there. (Any way of the run's act list and
-- loss to where the run ends; the run's own is one of them.)
pub record Passes (scope : Scope) (rows : List Event) (sums : AllSums) (run : Run scope rows sums)
    (front : List Event) : Type 0 where
  pub later : List Piece
  pub before : List Piece
  pub order : run.pieces ≡ later ++ before
  pub rows_before : events_of before ≡ front
  pub states_then : States
  pub sums_then : AllSums
  pub way : IsWay scope.begins run.loss before states_then sums_then
  pub onward : RunGoesOnThrough scope.begins run.loss before later states_then sums_then run.states
      sums

-- Two ways through pieces, under one loss, take the same choices and lead through the same states.
abbrev pub AreAlike : (one other : Beginning) (loss : Loss) (pieces : List Piece)
    (states others : States) (sums more : AllSums) → IsWay one loss pieces states sums
    → IsWay other loss pieces others more → Type 0
AreAlike one other loss [] states others sums more way same = Unit {0}
AreAlike one other loss (Whole act events ∷ pieces) states others sums more way same =
    (way.choice ≡ same.choice) × (way.before ≡ same.before)
    × AreAlike one other loss pieces way.before same.before way.sums_before same.sums_before
    way.way same.way
AreAlike one other loss (piece ∷ pieces) states others sums more way same =
    AreAlike one other loss pieces states others sums more way same

-- a value lies within a range
pub record IsInside (range : Range) (value : ℤ) : Type 0 where
  pub low : range.least ≤ℤ value
  pub high : value ≤ℤ range.greatest

-- What an account came to, from one time (`before`) to another (`after`), lies within its ranges:
-- as the device has it, as the controller has it, and the difference.
pub record CameToWithin (ranges : Account) (before after : AccountSums) : Type 0 where
  pub gained : AccountSums
  pub adds : after ≡ both_accounts before gained
  pub device : IsInside ranges.device (pos gained.device)
  pub controller : IsInside ranges.controller (pos gained.controller)
  pub difference : IsInside ranges.difference (pos gained.device -ℤ pos gained.controller)
