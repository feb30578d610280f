-- What a follower does by an act. This serves private functions.
use Rattle.std.specs.Prelude.{◌≡◌, ◌⊎◌, ◌+◌, List, [], ◌∷◌, Bool, Option, Some, IfSome, IsSomeAnd, OnSome}
use Rattle.std.specs.Option.{IfNone}
use Rattle.mdb_words.specs.declared.event.Event.{Event}
use Rattle.mdb_words.specs.Event.{start_of}
use Rattle.mdb_bus.specs.declared.act.Act.{Act}
use Rattle.mdb_bus.specs.declared.fault.Rule.{Rule}
use Rattle.mdb_bus.specs.declared.fault.Rule.TheVariants as rules
use Rattle.mdb_bus.specs.ActLists.{Piece}
use Rattle.mdb_bus.specs.Bus.{GoesOn, StandsFor, ended_act, scope_of}
use Rattle.mdb_bus.specs.ExtendedTimes.{untimely_sender}
use Rattle.mdb_bus.specs.declared.fault.Blame.{Blame}
use Rattle.mdb_follow.specs.declared.follower.Follower.{Follower}
use Rattle.mdb_follow.specs.declared.offence.Offence.{Offence}
use Rattle.mdb_follow.specs.Counted.{counted_with}
use Rattle.mdb_follow.specs.EndedActs.{IsEndedAct}
use Rattle.mdb_follow.specs.Feeding.{HasRefused, HasTakenRows}
use Rattle.mdb_follow.specs.Follower as follower
use Rattle.mdb_follow.specs.Offences.{act_fault}
use Rattle.mdb_follow.specs.inner.SidesLed.{SidesFollow, SidesStay, SidesStop}
use Rattle.mdb_follow.specs.SilenceGrowth.{SilencesFollow}

-- two followers are alike, but for their buses and their room for an act
abbrev pub IsLike : Follower → Follower → Type 0
IsLike one other = (one.sides ≡ other.sides) × (one.silences ≡ other.silences)
    × (one.untimely ≡ other.untimely) × (one.rows ≡ other.rows) × (one.offence ≡ other.offence)

-- The bus of a follower was fed a row that ended an act, or none. This is the row's sender, where
-- rows out of their time are counted and it is one.
pub record IsFed (old : Follower) (row : Event) (act : Option Act) (from : Option Blame)
    (fed : Follower) : Type 0 where
  pub like : IsLike fed old
  pub scope : scope_of fed.bus ≡ scope_of old.bus
  pub goes_on : (pieces : List Piece) → StandsFor old.bus pieces → GoesOn fed.bus pieces row act
  pub sender : (pieces : List Piece) → StandsFor old.bus pieces
      → counted_with from fed.untimely
      ≡ counted_with (untimely_sender (scope_of old.bus) pieces row) fed.untimely

-- A follower has followed an act that a row ended.
pub record HasFollowedAct (old : Follower) (act : Act) (row : Event) (new : Follower) : Type 0 where
  pub on_bus : new.bus ≡ old.bus
  pub rows : new.rows ≡ old.rows + 1
  pub going : new.offence ≡ old.offence
  pub sides : SidesFollow old.sides act new.sides
  pub silences : SilencesFollow old.silences act (start_of row) new.sides.first_reader.facts
      new.sides.second_reader.facts new.silences
  pub untimely : new.untimely ≡ old.untimely

-- A follower has stopped at an act by which a machine has no step: of the acts before it all that
-- it has is what it was.
pub record HasStopped (old : Follower) (act : Act) (row : Event) (new : Follower)
    (offence : Offence) : Type 0 where
  pub number : offence.row ≡ old.rows + 1
  pub own : Rule
  pub none : SidesStop old.sides act own
  pub either : (offence.rule ≡ own) ⊎ (offence.rule ≡ rules.Early)
  pub counts : (pieces : List Piece) → StandsFor old.bus pieces
      → record { rule = offence.rule; blame = offence.blame }
      ≡ act_fault (scope_of old.bus) pieces row act own
  pub noted : new.offence ≡ Some offence
  pub uncounted : new.rows ≡ old.rows
  pub stay : SidesStay old.sides new.sides
  pub silences : new.silences ≡ old.silences
  pub untimely : new.untimely ≡ old.untimely

-- A follower has taken the row that its bus was fed, or refused it.
pub record HasSettled (before : Follower) (row : Event) (after : Follower)
    (result : Option Bool) : Type 0 where
  pub taken : OnSome result (HasTakenRows before after (row ∷ []))
  pub act : IfSome result (λ ended. (events : List Event) → follower.StandsFor before events
      → IsEndedAct (scope_of before.bus) events row (ended_act ended after.act))
  pub refused : IfNone result (IsSomeAnd after.offence (HasRefused before after row))
