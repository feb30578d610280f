-- A surveyor that has met a fault, and hasn't ended the stretch before it yet.
use Rattle.std.specs.Prelude.{◌≡◌, List, Some, IsSome}
use Rattle.mdb_words.specs.declared.event.Event.{Event}
use Rattle.mdb_bus.specs.declared.fault.Rule.TheVariants as rules
use Rattle.mdb_bus.specs.declared.scope.Scope.{Scope}
use Rattle.mdb_bus.specs.ActLists.{IsActList, Piece, acts_of, position_of}
use Rattle.mdb_bus.specs.Bus.{open_block}
use Rattle.mdb_follow.specs.declared.offence.Offence.{Offence}
use Rattle.mdb_follow.specs.Follower as follow
use Rattle.mdb_follow.specs.Offences.{IsOffence}
use Rattle.mdb_surveyor.specs.declared.stretch.Ended.{Ended}
use Rattle.mdb_surveyor.specs.declared.surveyor.Surveyor.{Surveyor}
use Rattle.mdb_surveyor.specs.Counts.{counts_of_ended}
use Rattle.mdb_surveyor.specs.Stretches.{LeadFrom, StretchStart, first_place}
use Rattle.mdb_surveyor.specs.Told.{told_after}
use Rattle.mdb_surveyor.specs.Totals.{totals_of}

abbrev pub HasMetFault : Surveyor → Type 0
HasMetFault surveyor = IsSome (follow.offence_of surveyor.follower)

-- It stood for these rows and faults, and the row after them, which it was fed, can't be.
pub record HasHalted (surveyor : Surveyor) (scope : Scope) (rows : List Event) (row : Event)
    (ended : List Ended) : Type 0 where
  pub offence : Offence
  pub noted : follow.offence_of surveyor.follower ≡ Some offence
  pub running : List Event
  pub place : StretchStart
  pub lead : LeadFrom (first_place scope) rows ended running place
  pub accepted : follow.HasAccepted surveyor.follower running
  pub followed_so : follow.scope_of surveyor.follower ≡ place.scope
  pub taken_so : surveyor.scope ≡ place.scope
  pub is : IsOffence place.scope running row offence
  pub told : (pieces : List Piece) → IsActList place.scope pieces running
      → surveyor.told ≡ told_after place.scope.begins place.told (acts_of pieces)
  pub block : offence.rule ≡ rules.Profile → (pieces : List Piece)
      → IsActList place.scope pieces running
      → follow.open_block_of surveyor.follower ≡ open_block (position_of place.scope pieces)
  pub before : surveyor.before ≡ place.rows
  pub faults : surveyor.faults ≡ counts_of_ended ended
  pub totals : surveyor.totals ≡ totals_of ended
