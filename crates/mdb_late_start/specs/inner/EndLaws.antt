-- What the laws of ends rest on. This serves private functions.
use Rattle.std.specs.Prelude.{◌≡◌, List, [], ◌∷◌, ◌++◌}
use Rattle.mdb_words.specs.declared.event.Event.{Event}
use Rattle.mdb_msgs.specs.declared.command.Device.{Device}
use Rattle.mdb_msgs.specs.declared.setups.Setups.{Setups}
use Rattle.mdb_bus.specs.declared.act.Act.{Act}
use Rattle.mdb_bus.specs.declared.levels.Levels.{Levels}
use Rattle.mdb_bus.specs.declared.scope.Beginning.{Beginning}
use Rattle.mdb_bus.specs.declared.scope.Scope.{Scope}
use Rattle.mdb_bus.specs.Pieces.{NamesAReply}
use Rattle.mdb_bus.specs.ActLists.{ArePieces, IsActList, Piece, Whole, acts_of}
use Rattle.mdb_bus.specs.LeavingOut.{with_foreign}
use Rattle.mdb_bus.specs.Loss.{Loss, LossFits}
use Rattle.mdb_follow.specs.Tables.{EachArrives}
use Rattle.mdb_follow.specs.Runs.{AllSums, IsWay, States}
use Rattle.mdb_late_start.specs.Alone.{MayBeReadAlone}
use Rattle.mdb_late_start.specs.Cuts.{SplitsAt}
use Rattle.mdb_late_start.specs.MidSession.{MayJoinLate}
use Rattle.mdb_late_start.specs.Told.{AreToldBy, told_later}

-- what the crates below say of runs, and this one of cuts and of each device
pub record EndLaws : Type 0 where
  pub splits_rows : (scope : Scope) (setups : Setups) (front end : List Event)
      (pieces : List Piece) → MayBeReadAlone scope setups front end
      → IsActList scope pieces (front ++ end) → SplitsAt scope setups front end pieces
  pub told : (scope : Scope) (setups : Setups) (levels : Levels) (front end : List Event)
      (pieces : List Piece) → IsActList scope pieces (front ++ end)
      → (cut : SplitsAt scope setups front end pieces)
      → AreToldBy scope cut.before levels
      → IsActList (told_later setups levels scope) (cut.later ++ with_foreign cut.words []) end
  pub one : (scope : Scope) (rows : List Event) (one other : List Piece)
      → IsActList scope one rows → IsActList scope other rows → one ≡ other
  pub names : (scope : Scope) (act : Act) (events : List Event) (pieces : List Piece)
      → ArePieces scope (Whole act events ∷ pieces) → NamesAReply act
  pub splits : (begins : Beginning) (loss : Loss) (pieces : List Piece) (states : States)
      (sums : AllSums) → IsWay begins loss pieces states sums
      → EachArrives begins (acts_of pieces) states sums
  pub joins : (scope : Scope) (pieces : List Piece) (states : States) (sums : AllSums)
      → ArePieces scope pieces → EachArrives scope.begins (acts_of pieces) states sums
      → (loss : Loss) × LossFits loss pieces × IsWay scope.begins loss pieces states sums
  pub stays : (begins : Beginning) (setups : Setups) (device : Device)
      → MayJoinLate begins setups device
