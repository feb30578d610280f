-- Feature levels that the controller told the readers in front of the end of a recording, where the
-- end is taken by itself as a recording that begins in mid-session (this profile). Lists of pieces
-- are written newest first, lists of events oldest first.
use Rattle.std.specs.Prelude.{List, ◌++◌}
use Rattle.mdb_words.specs.declared.event.Event.{Event}
use Rattle.mdb_msgs.specs.declared.setups.Setups.{Setups}
use Rattle.mdb_bus.specs.declared.levels.Levels.{Levels}
use Rattle.mdb_bus.specs.declared.scope.Scope.{Scope}
use Rattle.mdb_bus.specs.ActLists.{IsActList, Piece, levels_of}
use Rattle.mdb_bus.specs.Scopes.{levels_before, profile_of, told}
use Rattle.mdb_late_start.specs.Cuts.{SplitsAt, joined_with}
use Rattle.mdb_late_start.specs.MidSession.{IsNothingOr}

-- the same recording from a later row on, with these setup data known and these levels told before
abbrev pub told_later : Setups → Levels → Scope → Scope
told_later setups levels scope = told levels (joined_with setups scope)

-- each reader was told nothing, or the same
abbrev pub IsLessTold : Levels → Levels → Type 0
IsLessTold one other = IsNothingOr one.first.asked other.first.asked
    × IsNothingOr one.second.asked other.second.asked

-- Of each reader no level is told, or the one that the controller had last told it in these pieces,
-- or before them.
abbrev pub AreToldBy : Scope → List Piece → Levels → Type 0
AreToldBy scope pieces levels =
    IsLessTold levels (levels_of (profile_of scope.begins) (levels_before scope) pieces)

-- Levels were told in front of a cut: by the pieces that began there. A command that the cut
-- divides is one of them.
pub record WereTold (scope : Scope) (setups : Setups) (levels : Levels) (front end : List Event)
    : Type 0 where
  pub pieces : List Piece
  pub act_list : IsActList scope pieces (front ++ end)
  pub cut : SplitsAt scope setups front end pieces
  pub in_front : AreToldBy scope cut.before levels
