-- The lines that are written of a transcript, in whatever form: one for each act, each tail and the
-- fault (this profile).
use Rattle.std.specs.Prelude.{◌+◌, ℕ, List, [], ◌∷◌, ◌++◌, length}
use Rattle.mdb_bus.specs.declared.act.Act.{Act}
use Rattle.mdb_bus.specs.declared.fault.LinkFault.{LinkFault}
use Rattle.mdb_bus.specs.ActLists.{Piece, Whole, AskTail, ReplyTail, RepeatTail, events_of}

-- A form of the lines. Rows are numbered from 1 on: the first and the last of an act, the same of a
-- tail that was cut, or the row that cannot be.
pub record LineForm : Type 0 where
  pub act : ℕ → ℕ → Act → List ℕ
  pub cut : ℕ → ℕ → List ℕ
  pub fault : ℕ → LinkFault → List ℕ

-- the line of a piece that has so many rows before it
abbrev pub piece_line : LineForm → ℕ → Piece → List ℕ
piece_line form before (Whole act events) = form.act (before + 1) (before + length events) act
piece_line form before (AskTail bytes events) = form.cut (before + 1) (before + length events)
piece_line form before (ReplyTail command bytes events) =
    form.cut (before + 1) (before + length events)
piece_line form before (RepeatTail command reply words events) =
    form.cut (before + 1) (before + length events)

-- the lines of pieces, the oldest first
abbrev pub lines_of : LineForm → List Piece → List ℕ
lines_of form [] = []
lines_of form (piece ∷ pieces) =
    lines_of form pieces ++ piece_line form (length (events_of pieces)) piece
