-- The pieces without a tail at their end. Lists of pieces are written newest first.
use Rattle.std.specs.Prelude.{List, [], ◌∷◌}
use Rattle.mdb_bus.specs.ActLists.{Piece, Whole}

-- The tail is still open: a break may cut it, but an act may come of it too.
abbrev pub closed_pieces : List Piece → List Piece
closed_pieces [] = []
closed_pieces (Whole act events ∷ pieces) = Whole act events ∷ pieces
closed_pieces (tail ∷ pieces) = pieces
