-- The act that ends with a row.
use Rattle.std.specs.Prelude.{◌≡◌, List, [], ◌∷◌, ◌++◌, Option}
use Rattle.mdb_words.specs.declared.event.Event.{Event}
use Rattle.mdb_bus.specs.declared.act.Act.{Act}
use Rattle.mdb_bus.specs.declared.scope.Scope.{Scope}
use Rattle.mdb_bus.specs.ActLists.{IsActList, Piece, acts_of, piece_events}
use Rattle.mdb_bus.specs.Pieces.{act_in, with_act}

-- The act that ends with a row after these events, if one does. The row is the last of the newest
-- piece of their act list: the act that this piece is, or none where it is a tail. It comes after
-- the acts of the events.
pub record IsEndedAct (scope : Scope) (events : List Event) (row : Event)
    (act : Option Act) : Type 0 where
  pub newest : Piece
  pub earlier : List Piece
  pub act_list : IsActList scope (newest ∷ earlier) (events ++ row ∷ [])
  -- the rows of the newest piece before this one
  pub begun : List Event
  pub rows : piece_events newest ≡ begun ++ row ∷ []
  pub is : act_in newest ≡ act
  -- the act list without the row
  pub before : List Piece
  pub shorter : IsActList scope before events
  pub acts : acts_of (newest ∷ earlier) ≡ with_act act (acts_of before)
