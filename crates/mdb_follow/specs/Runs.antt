-- Runs: what the devices and the controller may have done by the rows of a transcript, and the
-- money that moved by it (this profile). Pieces and acts stand newest first.
use Rattle.std.specs.Prelude.{◌≡◌, ◌↔◌, ℕ, List, [], ◌∷◌, length}
use Rattle.mdb_words.specs.declared.event.Event.{Event}
use Rattle.mdb_msgs.specs.declared.command.Device.{Device}
use Rattle.mdb_bus.specs.declared.act.Act.{Act}
use Rattle.mdb_bus.specs.ActLists.{Piece, Whole, IsActList, acts_of, events_of}
use Rattle.mdb_bus.specs.Acts.{IsAck}
use Rattle.mdb_bus.specs.Loss.{IsHeard, Loss, LossFits}
use Rattle.mdb_bus.specs.declared.scope.Beginning.{Beginning}
use Rattle.mdb_machine.specs.declared.choice.Choice.{Choice}
use Rattle.mdb_machine.specs.declared.choice.Choice.TheVariants.{Lost}
use Rattle.mdb_machine.specs.declared.gains.Gains.{Gains}
use Rattle.mdb_machine.specs.Choices.{CanStand}
use Rattle.mdb_follow.specs.Machines.{StateOf, machine_of}
use Rattle.mdb_follow.specs.Sums.{Sums, added, no_sums}
use Rattle.mdb_bus.specs.declared.scope.Scope.{Scope}

-- a state of each device and the controller's dealings with it
abbrev pub States : Type 0
States = (device : Device) → StateOf device

-- what the accounts of each device have come to
abbrev pub AllSums : Type 0
AllSums = Device → Sums

-- a step of one device and the controller, and its gains in their sums
pub record Goes {State : Type 0} (Step : State → State → Gains → Type 0) (before after : State)
    (sums_before sums : Sums) : Type 0 where
  pub gains : Gains
  pub step : Step before after gains
  pub adds : sums ≡ added sums_before gains

-- A step of all by an act under one choice, after other acts of a recording that begins so: each
-- device and the controller by its machine.
abbrev pub AllGo : Beginning → List Act → Act → Choice → States → States → AllSums → AllSums
    → Type 0
AllGo begins acts act choice before after sums_before sums =
    (device : Device) → Goes ((machine_of begins device).Step acts act choice) (before device)
    (after device) (sums_before device) (sums device)

-- A way goes on by one act, under a choice that can stand on it: an ACK is one that its receiver
-- didn't hear exactly where the loss of its rows has it so.
pub record RunGoesOnBy (begins : Beginning) (loss : Loss) (pieces : List Piece) (act : Act)
    (count : ℕ) (Before : States → AllSums → Type 0) (states : States) (sums : AllSums)
    : Type 0 where
  pub choice : Choice
  pub stands : CanStand act choice
  pub as_lost : IsAck act
      → (choice ≡ Lost) ↔ (IsHeard loss act (length (events_of pieces)) count → ⊥)
  pub before : States
  pub sums_before : AllSums
  pub way : Before before sums_before
  pub go : AllGo begins (acts_of pieces) act choice before states sums_before sums

-- A way through pieces of a recording that begins so, under a loss, from states in which the
-- machines may start, leads to these states with these sums. Tails change nothing.
abbrev pub IsWay : Beginning → Loss → List Piece → States → AllSums → Type 0
IsWay begins loss [] states sums =
    (device : Device)
    → (machine_of begins device).Starts (states device) × (sums device ≡ no_sums)
IsWay begins loss (Whole act events ∷ pieces) states sums =
    RunGoesOnBy begins loss pieces act (length events) (IsWay begins loss pieces) states sums
IsWay begins loss (piece ∷ pieces) states sums = IsWay begins loss pieces states sums

-- a run of a transcript, and what the accounts come to in it
pub record Run (scope : Scope) (events : List Event) (sums : AllSums) : Type 0 where
  pub pieces : List Piece
  pub act_list : IsActList scope pieces events
  pub loss : Loss
  pub fits : LossFits loss pieces
  pub states : States
  pub way : IsWay scope.begins loss pieces states sums

-- rows are reached where they have a run
abbrev pub IsReached : Scope → List Event → Type 0
IsReached scope events = (sums : AllSums) × Run scope events sums
