-- How tracks are led over an act, and how far from 0 the ends of their sums and their counts are.
-- This serves `Replay` and private functions.
use Rattle.std.specs.Prelude.{◌≡◌, ◌≤◌, ◌+◌, ◌^◌, ℕ, List, ◌∷◌}
use Rattle.mdb_msgs.specs.declared.command.Device.{Device}
use Rattle.mdb_bus.specs.declared.act.Act.{Act}
use Rattle.mdb_bus.specs.declared.fault.Rule.{Rule}
use Rattle.mdb_bus.specs.declared.scope.Beginning.TheVariants.{PowerOn}
use Rattle.mdb_bus.specs.declared.scope.Profile.{Profile}
use Rattle.mdb_machine.specs.declared.choice.Choice.{Choice}
use Rattle.mdb_machine.specs.Choices.{CanStand}
use Rattle.mdb_machine.specs.Machine.{Machine}
use Rattle.mdb_run_search.specs.declared.track.Track.{Track}
use Rattle.mdb_run_search.specs.declared.tracks.Tracks.{Tracks}
use Rattle.mdb_follow.specs.ByDevice.{OneGoes}
use Rattle.mdb_follow.specs.Choosing.{Choices}
use Rattle.mdb_follow.specs.Machines.{machine_of}
use Rattle.mdb_follow.specs.Offences.{rule_of}
use Rattle.mdb_follow.specs.Report.{unvalued_of}
use Rattle.mdb_follow.specs.Sides.{stands_for}
use Rattle.mdb_run_search.specs.Tracks.{HasNoStepFrom, IsTrack, IsTrackOf, TrackOf, chosen_more}
use Rattle.mdb_run_search.specs.Tracks.{track_in}
use Rattle.mdb_follow.specs.Limits.{IsCellWithin}

-- all ends of a track's cell are at most so far from 0, and so is its count
pub record IsTrackWithin {Facts State : Type 0} (limit : ℕ) (track : Track Facts State)
    : Type 0 where
  pub ends : IsCellWithin limit track.cell
  pub count : track.unvalued ≤ limit

-- those of all tracks
abbrev pub AreTracksWithin : ℕ → Tracks → Type 0
AreTracksWithin limit tracks = (device : Device) → IsTrackWithin limit (track_in tracks device)

-- A track was led over an act under a choice: it stands for one act more, and its ends and its
-- count are little farther from 0.
pub record Leads {Facts State : Type 0} (stands_for : Facts → List Act → Type 0)
    (machine : Machine State) (unvalued : List Act → ℕ) (old : Track Facts State) (act : Act)
    (choice : Choice) (new : Track Facts State) : Type 0 where
  pub stands : (acts : List Act) (chosen : Choices acts) (can : CanStand act choice)
      → IsTrack stands_for machine unvalued old acts chosen
      → IsTrack stands_for machine unvalued new (act ∷ acts)
      (chosen_more act acts choice can chosen)
  pub within : (limit : ℕ) → IsTrackWithin limit old → IsTrackWithin (limit + 2 ^ 32) new

-- the track of a device was
abbrev pub LeadsOf : Act → Choice → (device : Device) → TrackOf device → TrackOf device → Type 0
LeadsOf act choice device old new =
    (profile : Profile) → Leads (stands_for (PowerOn profile) device)
    (machine_of (PowerOn profile) device) (unvalued_of (PowerOn profile) device) old act choice new

-- the track of one device was, and each other is what it was
abbrev pub OneLeads : Device → Tracks → Act → Choice → Tracks → Type 0
OneLeads device old act choice new =
    OneGoes TrackOf (LeadsOf act choice) device (track_in old) (track_in new)

-- each was
abbrev pub TracksLead : Tracks → Act → Choice → Tracks → Type 0
TracksLead old act choice new =
    (device : Device) → LeadsOf act choice device (track_in old device) (track_in new device)

-- The track of a device has no step by an act under a choice, so the rule of the device is broken.
pub record TrackStops (device : Device) (tracks : Tracks) (act : Act) (choice : Choice)
    (broken : Rule) : Type 0 where
  pub rule : broken ≡ rule_of device
  pub none : (profile : Profile) (acts : List Act) (chosen : Choices acts)
      → IsTrackOf profile device (track_in tracks device) acts chosen
      → HasNoStepFrom (machine_of (PowerOn profile) device) acts act choice
      (track_in tracks device).state

-- that of some device has none
abbrev pub TracksStop : Tracks → Act → Choice → Rule → Type 0
TracksStop tracks act choice broken =
    (device : Device) × TrackStops device tracks act choice broken
