-- Rows that are not whole by themselves: a part of a recording, with what is left of the act before
-- it and what has begun of the act after it (this profile). Lists of pieces are written newest
-- first, lists of events oldest first.
use Rattle.std.specs.Prelude.{◌≡◌, List, ◌++◌, All}
use Rattle.mdb_words.specs.declared.event.Event.{Event}
use Rattle.mdb_bus.specs.declared.scope.Scope.{Scope}
use Rattle.mdb_bus.specs.ActLists.{IsActList, Piece, events_of}
use Rattle.mdb_bus.specs.Pieces.{IsTail}
use Rattle.mdb_bus.specs.Acts.{IsForeignWord}
use Rattle.mdb_late_start.specs.Cuts.{BeginAnew}

-- Rows are foreign words (`words`), then rows that begin anew (`middle`), and then at most words of
-- acts that began and didn't end (`tail`).
pub record HasMiddle (scope : Scope) (rows middle : List Event) : Type 0 where
  pub words : List Event
  pub foreign : All IsForeignWord words
  pub anew : BeginAnew middle
  pub whole : List Piece
  pub tail : List Piece
  pub act_list : IsActList scope (tail ++ whole) rows
  pub cut : All IsTail tail
  pub of_whole : events_of whole ≡ words ++ middle
