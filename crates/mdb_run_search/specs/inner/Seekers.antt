-- What a seeker of marks stands for. This serves private functions.
use Rattle.std.specs.Prelude.{◌≡◌, ◌*◌, ◌^◌, List, length}
use Rattle.mdb_words.specs.declared.event.Event.{Event}
use Rattle.mdb_bus.specs.declared.scope.Beginning.TheVariants.{PowerOn}
use Rattle.mdb_bus.specs.declared.scope.Profile.{Profile}
use Rattle.mdb_bus.specs.ActLists.{Piece, events_of}
use Rattle.mdb_bus.specs.Bus as bus
use Rattle.mdb_run_search.specs.declared.explain.seeker.Seeker.{Seeker}
use Rattle.mdb_follow.specs.declared.goal.Goal.{Goal}
use Rattle.mdb_run_search.specs.inner.AllPaths.{AreAllPaths, AreAllWithin}

-- A seeker for a goal stands for events of a recording from power-on: its bus does, and the paths
-- of each device are those through their acts.
pub record IsSeeker (goal : Goal) (events : List Event) (seeker : Seeker) : Type 0 where
  pub profile : Profile
  pub begins : (bus.scope_of seeker.bus).begins ≡ PowerOn profile
  pub pieces : List Piece
  pub on_bus : bus.StandsFor seeker.bus pieces
  pub whole : events_of pieces ≡ events
  pub rows : seeker.rows ≡ length events
  pub paths : AreAllPaths profile goal pieces seeker.all
  pub within : AreAllWithin (seeker.rows * 2 ^ 32) seeker.all
