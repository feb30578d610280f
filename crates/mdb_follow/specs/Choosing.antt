-- What is chosen of each act of a run, and the ways of a machine with given choices (this profile).
-- Lists of acts and of pieces stand newest first.
use Rattle.std.specs.Prelude.{◌≡◌, List, [], ◌∷◌}
use Rattle.mdb_msgs.specs.declared.command.Device.{Device}
use Rattle.mdb_bus.specs.declared.act.Act.{Act}
use Rattle.mdb_bus.specs.ActLists.{Piece, Whole, acts_of}
use Rattle.mdb_bus.specs.Loss.{Loss}
use Rattle.mdb_bus.specs.declared.scope.Beginning.{Beginning}
use Rattle.mdb_machine.specs.declared.choice.Choice.{Choice}
use Rattle.mdb_machine.specs.declared.gains.Gains.{Gains}
use Rattle.mdb_machine.specs.Choices.{CanStand}
use Rattle.mdb_machine.specs.Machine.{Machine}
use Rattle.mdb_follow.specs.Machines.{machine_of}
use Rattle.mdb_follow.specs.Runs.{AllSums, IsWay, States}
use Rattle.mdb_follow.specs.Sums.{Sums, added, no_sums}

-- for each act of a list a choice that can stand on it
pub record ChoicesBy (act : Act) (Before : Type 0) : Type 0 where
  pub choice : Choice
  pub stands : CanStand act choice
  pub before : Before

abbrev pub Choices : List Act → Type 0
Choices [] = Unit {0}
Choices (act ∷ acts) = ChoicesBy act (Choices acts)

-- one act more: a way of a machine with these choices goes on by a step
pub record FollowsBy {State : Type 0} (Before : State → Sums → Type 0)
    (Step : State → State → Gains → Type 0) (state : State) (sums : Sums) : Type 0 where
  pub before : State
  pub sums_before : Sums
  pub gains : Gains
  pub way : Before before sums_before
  pub step : Step before state gains
  pub adds : sums ≡ added sums_before gains

-- a way of a machine through acts, with these choices, from a state in which it may start
abbrev pub Follows : {State : Type 0} → Machine State → (acts : List Act) → Choices acts → State
    → Sums → Type 0
Follows machine [] choices state sums = machine.Starts state × (sums ≡ no_sums)
Follows machine (act ∷ acts) choices state sums =
    FollowsBy (Follows machine acts choices.before) (machine.Step acts act choices.choice) state
    sums

-- each device has a way with the same choices
abbrev pub AllFollow : Beginning → (acts : List Act) → Choices acts → States → AllSums → Type 0
AllFollow begins acts choices states sums =
    (device : Device)
    → Follows (machine_of begins device) acts choices (states device) (sums device)

-- what a way of all chooses of each act
abbrev pub choices_of : (begins : Beginning) (loss : Loss) (pieces : List Piece) (states : States)
    (sums : AllSums) → IsWay begins loss pieces states sums → Choices (acts_of pieces)
choices_of begins loss [] states sums way = tt
choices_of begins loss (Whole act events ∷ pieces) states sums way = record {
  choice = way.choice;
  stands = way.stands;
  before = choices_of begins loss pieces way.before way.sums_before way.way;
}
choices_of begins loss (piece ∷ pieces) states sums way =
    choices_of begins loss pieces states sums way
