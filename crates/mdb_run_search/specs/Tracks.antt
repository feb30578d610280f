-- What a track of a replay stands for: a device and the controller, in a recording from power-on,
-- by a profile, with given choices. Lists of acts stand newest first.
use Rattle.std.specs.Prelude.{◌≡◌, ℕ, List, ◌∷◌}
use Rattle.mdb_msgs.specs.declared.command.Device.{Device}
use Rattle.mdb_msgs.specs.declared.command.Device.TheVariants as devices
use Rattle.mdb_msgs.specs.declared.command.ReaderUnit.TheVariants.{First, Second}
use Rattle.mdb_bus.specs.declared.act.Act.{Act}
use Rattle.mdb_bus.specs.declared.scope.Beginning.TheVariants.{PowerOn}
use Rattle.mdb_bus.specs.declared.scope.Profile.{Profile}
use Rattle.mdb_machine.specs.declared.choice.Choice.{Choice}
use Rattle.mdb_machine.specs.declared.gains.Gains.{Gains}
use Rattle.mdb_machine.specs.Choices.{CanStand}
use Rattle.mdb_machine.specs.Machine.{Machine}
use Rattle.mdb_run_search.specs.declared.track.Track.{Track}
use Rattle.mdb_run_search.specs.declared.tracks.Tracks.{Tracks}
use Rattle.mdb_follow.specs.Choosing.{Choices, Follows}
use Rattle.mdb_follow.specs.Machines.{StateOf, machine_of}
use Rattle.mdb_follow.specs.Cells.{IsCell}
use Rattle.mdb_follow.specs.Report.{unvalued_of}
use Rattle.mdb_follow.specs.Sides.{FactsOf, stands_for}
use Rattle.mdb_follow.specs.Sums.{Sums}

-- choices with that of one act more
abbrev pub chosen_more : (act : Act) (acts : List Act) (choice : Choice) → CanStand act choice
    → Choices acts → Choices (act ∷ acts)
chosen_more act acts choice can chosen =
    record { choice = choice; stands = can; before = chosen }

-- from a state there is no step by an act under a choice, after acts
abbrev pub HasNoStepFrom : {State : Type 0} → Machine State → List Act → Act → Choice → State
    → Type 0
HasNoStepFrom {State} machine acts act choice state =
    (after : State) (gains : Gains) → machine.Step acts act choice state after gains → ⊥

-- A track stands for acts with choices: what it has of the facts is what is known after them, its
-- state is that of a way with these choices, and of each such way, and its ranges are those of the
-- sums of that way alone.
pub record IsTrack {Facts State : Type 0} (stands_for : Facts → List Act → Type 0)
    (machine : Machine State) (unvalued : List Act → ℕ) (track : Track Facts State)
    (acts : List Act) (chosen : Choices acts) : Type 0 where
  pub facts : stands_for track.facts acts
  pub sums : Sums
  pub way : Follows machine acts chosen track.state sums
  pub only : (state : State) (other : Sums) → Follows machine acts chosen state other
      → (state ≡ track.state) × (other ≡ sums)
  pub cell : IsCell (λ other. other ≡ sums) track.cell
  pub counted : track.unvalued ≡ unvalued acts

-- what a replay keeps of a device, and that it stands for acts with choices
abbrev pub TrackOf : Device → Type 0
TrackOf device = Track (FactsOf device) (StateOf device)

abbrev pub IsTrackOf : Profile → (device : Device) → TrackOf device → (acts : List Act)
    → Choices acts → Type 0
IsTrackOf profile device track acts chosen =
    IsTrack (stands_for (PowerOn profile) device) (machine_of (PowerOn profile) device)
    (unvalued_of (PowerOn profile) device) track acts chosen

-- the track of a device
abbrev pub track_in : Tracks → (device : Device) → TrackOf device
track_in tracks devices.Changer = tracks.changer
track_in tracks devices.Bill = tracks.bill
track_in tracks (devices.Reader First) = tracks.first_reader
track_in tracks (devices.Reader Second) = tracks.second_reader

-- each track stands for acts with choices
abbrev pub AreTracks : Profile → Tracks → (acts : List Act) → Choices acts → Type 0
AreTracks profile tracks acts chosen =
    (device : Device) → IsTrackOf profile device (track_in tracks device) acts chosen
