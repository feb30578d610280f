-- The end of a transcript, taken as a recording that begins in mid-session: which of its pieces
-- stand in the end, and what the cut leaves of the others (this profile). Lists of pieces are
-- written newest first, lists of events oldest first.
use Rattle.std.specs.Prelude.{◌≡◌, ◌⊎◌, List, [], ◌∷◌, ◌++◌}
use Rattle.mdb_words.specs.declared.event.Event.{Event}
use Rattle.mdb_words.specs.declared.event.Event.TheVariants.{Word, Break}
use Rattle.mdb_msgs.specs.declared.setups.Setups.{Setups}
use Rattle.mdb_bus.specs.declared.scope.Beginning.TheVariants.{Joined}
use Rattle.mdb_bus.specs.declared.scope.Scope.{Scope}
use Rattle.mdb_bus.specs.Acts.{IsBlockWord}
use Rattle.mdb_bus.specs.ActLists.{ArePieces, IsActList, Piece, events_of}
use Rattle.mdb_bus.specs.LeavingOut.{with_foreign}
use Rattle.mdb_bus.specs.Scopes.{no_levels, profile_of}

-- an event is a break
abbrev pub IsBreakEvent : Event → Type 0
IsBreakEvent (Word at line word) = ⊥
IsBreakEvent (Break at length) = Unit {0}

-- Rows begin with a marked word of the controller or with a break: no act that began before them
-- goes on in them.
abbrev pub BeginAnew : List Event → Type 0
BeginAnew [] = ⊥
BeginAnew (event ∷ events) = IsBlockWord event ⊎ IsBreakEvent event

-- the same recording from a later row on, with these setup data known
abbrev pub joined_with : Setups → Scope → Scope
joined_with setups scope = record {
  begins = Joined setups (profile_of scope.begins);
  without = scope.without;
  levels = no_levels;
}

-- A transcript is cut, and its end is taken as a recording by itself. The pieces that begin in the
-- end stand there as they stood (`later`). The rows before them (`words`) belong to pieces that
-- began in front of the cut, and stand as foreign words; there are none where the end begins anew.
pub record SplitsAt (scope : Scope) (setups : Setups) (front end : List Event) (pieces : List Piece)
    : Type 0 where
  pub later : List Piece
  pub words : List Event
  pub before : List Piece
  pub order : pieces ≡ later ++ before
  pub in_front : ArePieces scope before
  pub rows : events_of before ≡ front ++ words
  pub act_list : IsActList (joined_with setups scope) (later ++ with_foreign words []) end
  pub clean : BeginAnew end → words ≡ []
