-- What a follower stands for that heeds the feature levels. This file serves private functions and
-- proofs: no public clause cites it.
use Rattle.std.specs.Prelude.{◌≡◌, List, [], ◌∷◌, ◌++◌, length, true, Some}
use Rattle.mdb_words.specs.declared.event.Event.{Event}
use Rattle.mdb_bus.specs.declared.levels.Levels.{Levels}
use Rattle.mdb_bus.specs.declared.scope.Scope.{Scope}
use Rattle.mdb_bus.specs.ActLists.{IsActList, Piece, acts_of, last_of}
use Rattle.mdb_follow.specs.declared.offence.Offence.{Offence}
use Rattle.mdb_follow.specs.Follower.{HasAccepted, offence_of, rows_of}
use Rattle.mdb_follow.specs.Offences.{IsOffence}
use Rattle.mdb_verdict.specs.Ending.{HasFollowedRows}
use Rattle.mdb_check.specs.declared.heeding.Heeding.{Heeding}
use Rattle.mdb_check.specs.declared.heeding.Met.{Met}
use Rattle.mdb_check.specs.Spared.{before_last}
use Rattle.mdb_check.specs.Unfollowed.{unfollowed}
use Rattle.mdb_check.specs.Unjudged.{IsJudged, is_joined, known_before, last_begun, reported, unjudged}

-- The rows of a recording that is taken so were followed. Of one that isn't joined the levels don't
-- count.
pub record HasFollowed (scope : Scope) (readers : Levels) (heeding : Heeding)
    (rows : List Event) : Type 0 where
  pub follows : HasFollowedRows scope heeding.follower rows
  pub joined : heeding.joined ≡ is_joined scope.begins
  pub reported : heeding.joined ≡ true → (pieces : List Piece) → IsActList scope pieces rows
      → heeding.reported ≡ reported (known_before scope readers) (acts_of pieces)
  pub begun : heeding.joined ≡ true → heeding.begun ≡ last_begun rows

-- and the last two of them were kept, and with which byte the last block begins
pub record HasTaken (scope : Scope) (readers : Levels) (heeding : Heeding)
    (rows : List Event) : Type 0 where
  pub is : HasFollowed scope readers heeding rows
  pub last : heeding.last ≡ last_of rows
  pub earlier : heeding.earlier ≡ before_last rows
  pub begun : heeding.begun ≡ last_begun rows

-- A row after these was refused.
pub record HasRefused (scope : Scope) (readers : Levels) (heeding : Heeding) (rows : List Event)
    (row : Event) (offence : Offence) : Type 0 where
  pub is : IsOffence scope rows row offence
  pub judged : IsJudged scope readers rows row offence (unjudged heeding.joined heeding.reported
      offence.rule offence.blame heeding.begun)
  pub noted : offence_of heeding.follower ≡ Some offence
  pub accepted : HasAccepted heeding.follower rows
  pub counted : rows_of heeding.follower ≡ length rows

abbrev pub SomeRefused : Scope → Levels → Heeding → List Event → Event → Type 0
SomeRefused scope readers heeding rows row =
    (offence : Offence) × HasRefused scope readers heeding rows row offence

-- the first of some rows, after earlier ones
pub record RefusesAmong (scope : Scope) (readers : Levels) (heeding : Heeding)
    (earlier rows : List Event) : Type 0 where
  pub offence : Offence
  pub front : List Event
  pub row : Event
  pub rest : List Event
  pub parts : rows ≡ front ++ row ∷ rest
  pub is : HasRefused scope readers heeding (earlier ++ front) row offence

-- A row after these was refused, and this was met there.
pub record Meets (scope : Scope) (readers : Levels) (heeding : Heeding) (rows : List Event)
    (row : Event) (met : Met) : Type 0 where
  pub refused : HasRefused scope readers heeding rows row met.offence
  pub unjudged : met.unjudged ≡ unjudged heeding.joined heeding.reported met.offence.rule
      met.offence.blame heeding.begun
  pub there : met.row ≡ row
  pub unfollowed : met.unfollowed ≡ unfollowed met.offence.rule met.offence.blame
      (last_begun (rows ++ row ∷ []))
  pub earlier : met.earlier ≡ before_last rows
  pub last : met.last ≡ last_of rows
