-- What a follower stands for.
use Rattle.std.specs.Prelude.{◌≡◌, ℕ, List, length, Bool, true, false, Option, Some, None}
use Rattle.mdb_words.specs.declared.event.Event.{Event}
use Rattle.mdb_bus.specs.declared.act.Act.{Act}
use Rattle.mdb_bus.specs.ActLists.{IsActList, Piece, acts_of, events_of}
use Rattle.mdb_bus.specs.declared.bus.Bus.{Bus}
use Rattle.mdb_bus.specs.declared.fault.Rule.{Rule}
use Rattle.mdb_bus.specs.declared.fault.Rule.TheVariants as rules
use Rattle.mdb_bus.specs.declared.scope.Scope.{Scope}
use Rattle.mdb_bus.specs.Bus as bus
use Rattle.mdb_bus.specs.ExtendedTimes.{times_of}
use Rattle.mdb_follow.specs.declared.follower.Follower.{Follower}
use Rattle.mdb_follow.specs.declared.offence.Offence.{Offence}
use Rattle.mdb_follow.specs.Sides.{AreSides}
use Rattle.mdb_follow.specs.Silences.{asks_of}
use Rattle.mdb_follow.specs.SilencesKept.{AllStandForAsks}

-- how the recording is taken that it is fed, how many rows it has accepted, and the offence that it
-- has met
abbrev pub scope_of : Follower → Scope
scope_of follower = bus.scope_of follower.bus

abbrev pub rows_of : Follower → ℕ
rows_of follower = follower.rows

abbrev pub offence_of : Follower → Option Offence
offence_of follower = follower.offence

-- what a follower has in its room for an act: the act that ended last; where the last row ended
-- none, some act
abbrev pub act_of : Follower → Act
act_of follower = follower.act

-- the bytes so far of the block of the controller that is open on its bus
abbrev pub open_block_of : Follower → List ℕ
open_block_of follower = bus.open_block_of follower.bus

-- the bus on which a follower is, and whether a row that breaks this rule never was on it: a word
-- that comes too late
abbrev pub bus_of : Follower → Bus
bus_of follower = follower.bus

abbrev pub is_late : Rule → Bool
is_late rules.Late = true
is_late rules.Spacing = true
is_late broken = false

-- A follower stands for events: its bus does, each of its sides stands for their acts, its silences
-- are those of their asks, and its count of rows out of their time is theirs.
pub record StandsFor (follower : Follower) (events : List Event) : Type 0 where
  pub pieces : List Piece
  pub on_bus : bus.StandsFor follower.bus pieces
  pub whole : events_of pieces ≡ events
  pub rows : follower.rows ≡ length events
  pub going : follower.offence ≡ None
  pub sides : AreSides (scope_of follower).begins follower.sides (acts_of pieces)
  pub silences : AllStandForAsks follower.silences
      (λ device. asks_of (scope_of follower).begins device pieces)
  pub untimely : follower.untimely ≡ times_of (scope_of follower) pieces

-- A follower has accepted events: they have an act list, each of its sides stands for their acts,
-- its silences are those of their asks, and its count of rows out of their time is theirs. A
-- follower has accepted what it stands for, and after an offence the rows before it. If this was a
-- word that came too late, its bus still stands for them.
pub record HasAccepted (follower : Follower) (events : List Event) : Type 0 where
  pub pieces : List Piece
  pub act_list : IsActList (scope_of follower) pieces events
  pub rows : follower.rows ≡ length events
  pub sides : AreSides (scope_of follower).begins follower.sides (acts_of pieces)
  pub silences : AllStandForAsks follower.silences
      (λ device. asks_of (scope_of follower).begins device pieces)
  pub untimely : follower.untimely ≡ times_of (scope_of follower) pieces
  pub on_bus : (met : Offence) → follower.offence ≡ Some met → is_late met.rule ≡ true
      → bus.StandsFor follower.bus pieces
