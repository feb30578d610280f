-- What a surveyor stands for.
use Rattle.std.specs.Prelude.{◌≡◌, ◌+◌, ℕ, List}
use Rattle.mdb_words.specs.declared.event.Event.{Event}
use Rattle.mdb_bus.specs.declared.scope.Scope.{Scope}
use Rattle.mdb_bus.specs.ActLists.{IsActList, Piece, acts_of}
use Rattle.mdb_follow.specs.Follower as follow
use Rattle.mdb_surveyor.specs.declared.stretch.Ended.{Ended}
use Rattle.mdb_surveyor.specs.declared.surveyor.Surveyor.{Surveyor}
use Rattle.mdb_surveyor.specs.Counts.{counts_of_ended}
use Rattle.mdb_surveyor.specs.Stretches.{LeadFrom, StretchStart, first_place}
use Rattle.mdb_surveyor.specs.Told.{told_after}
use Rattle.mdb_surveyor.specs.Totals.{totals_of}

-- how many rows it has taken
abbrev pub rows_of : Surveyor → ℕ
rows_of surveyor = surveyor.before + follow.rows_of surveyor.follower

-- A surveyor stands for the rows of a recording with this scope, and for faults, each with the
-- stretch that it ended: the rows lead over these to the stretch that runs, and its follower stands
-- for the rows of that.
pub record StandsFor (surveyor : Surveyor) (scope : Scope) (rows : List Event)
    (ended : List Ended) : Type 0 where
  pub running : List Event
  pub place : StretchStart
  pub lead : LeadFrom (first_place scope) rows ended running place
  pub follows : follow.StandsFor surveyor.follower running
  pub followed_so : follow.scope_of surveyor.follower ≡ place.scope
  pub taken_so : surveyor.scope ≡ place.scope
  pub told : (pieces : List Piece) → IsActList place.scope pieces running
      → surveyor.told ≡ told_after place.scope.begins place.told (acts_of pieces)
  pub before : surveyor.before ≡ place.rows
  pub faults : surveyor.faults ≡ counts_of_ended ended
  pub totals : surveyor.totals ≡ totals_of ended
