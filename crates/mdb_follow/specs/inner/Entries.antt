-- The entries of a table. `AreBelow` stands in what a public `Table` is: its codes are those of
-- states. The rest, how entries are made, serves private functions.
use Rattle.std.specs.Prelude.{◌≡◌, ◌==◌, ◌<◌, ◌⊎◌, ◌↔◌, ℕ, List, [], ◌∷◌, All, Contains, Option}
use Rattle.std.specs.Prelude.{Some, None, fold, if◌then◌else◌}
use Rattle.std.specs.Prelude.{length, slice_index, slice_index_or}
use Rattle.mdb_bus.specs.declared.act.Act.{Act}
use Rattle.mdb_machine.specs.declared.choice.Choice.{Choice}
use Rattle.mdb_machine.specs.declared.gains.Gains.{Gains}
use Rattle.mdb_machine.specs.Gains.{no_gains}
use Rattle.mdb_machine.specs.SmallGains.{IsSmall}
use Rattle.mdb_machine.specs.Machine.{Machine}
use Rattle.mdb_follow.specs.declared.cell.Cell.{Cell}
use Rattle.mdb_follow.specs.Cells.{joined_cell, moved_cell}

-- no entry has this code
abbrev pub Lacks : List (ℕ × Cell) → ℕ → Type 0
Lacks [] code = Unit {0}
Lacks (entry ∷ entries) code = (entry.0 ≡ code → ⊥) × Lacks entries code

-- no two entries have one code
abbrev pub AreApart : List (ℕ × Cell) → Type 0
AreApart [] = Unit {0}
AreApart (entry ∷ entries) = Lacks entries entry.0 × AreApart entries

-- all codes are below a number
abbrev pub AreBelow : ℕ → List (ℕ × Cell) → Type 0
AreBelow number entries = All (λ entry. entry.0 < number) entries

-- entries that fit in so many places
pub record IsKeyed (number : ℕ) (entries : List (ℕ × Cell)) : Type 0 where
  pub apart : AreApart entries
  pub below : AreBelow number entries

-- The place of each entry is noted under its code.
pub record IsPlaced (entries : List (ℕ × Cell)) (places : List ℕ) : Type 0 where
  pub at : (k : ℕ) (d : ℕ × Cell) → k < length entries
      → slice_index places (slice_index_or entries k d).0 ≡ k

-- the entry at a place has this code
abbrev pub HasAt : List (ℕ × Cell) → ℕ → ℕ → Type 0
HasAt entries place code = (place < length entries)
    × ((d : ℕ × Cell) → (slice_index_or entries place d).0 ≡ code)

-- the entries with a cell more: joined to that of its code, else after all
abbrev pub with_cell : List (ℕ × Cell) → ℕ → Cell → List (ℕ × Cell)
with_cell [] code cell = (code, cell) ∷ []
with_cell (entry ∷ entries) code cell =
    if entry.0 == code then (entry.0, joined_cell entry.1 cell) ∷ entries
    else (entry ∷ with_cell entries code cell)

-- the entries with the cells that the steps from a cell lead to
abbrev pub with_moves : List (ℕ × Cell) → Cell → List (ℕ × Gains) → List (ℕ × Cell)
with_moves entries cell [] = entries
with_moves entries cell (move ∷ moves) =
    with_moves (with_cell entries move.0 (moved_cell cell move.1)) cell moves

-- the move that a step is, if it is one
abbrev pub moves_of : Option (ℕ × Gains) → List (ℕ × Gains)
moves_of None = []
moves_of (Some move) = move ∷ []

-- the moves that two steps are, which may be the same
abbrev pub AreMoves : List (ℕ × Gains) → Option (ℕ × Gains) → Option (ℕ × Gains) → Type 0
AreMoves moves one other =
    (move : ℕ × Gains) → Contains moves move ↔ (one ≡ Some move) ⊎ (other ≡ Some move)

-- the entries that two steps from a cell lead to, which may be the same
abbrev pub LeadTo : Cell → Option (ℕ × Gains) → Option (ℕ × Gains) → List (ℕ × Cell) → Type 0
LeadTo cell one other entries =
    (moves : List (ℕ × Gains)) × AreMoves moves one other × (entries ≡ with_moves [] cell moves)

-- the entries with the cells that moves from a cell lead to, which are such, small, and to codes
-- below a number
pub record LeadBy (number : ℕ) (Are : List (ℕ × Gains) → Type 0) (old : List (ℕ × Cell))
    (cell : Cell) (new : List (ℕ × Cell)) : Type 0 where
  pub moves : List (ℕ × Gains)
  pub are : Are moves
  pub below : All (λ move. move.0 < number) moves
  pub small : All (λ move. IsSmall move.1) moves
  pub led : new ≡ with_moves old cell moves

-- the join of a cell and those of entries
abbrev pub joined_cells : Cell → List (ℕ × Cell) → Cell
joined_cells cell entries = fold (λ all entry. joined_cell all entry.1) cell entries

-- An act leaves the states that have a code, and the sums, after whatever acts and under whatever
-- choice.
abbrev pub RestsAt : {State : Type 0} → (State → ℕ) → Machine State → Act → ℕ → Type 0
RestsAt {State} code_of machine act code =
    (acts : List Act) (choice : Choice) (before after : State) (gains : Gains)
    → code_of before ≡ code
    → machine.Step acts act choice before after gains ↔ (after ≡ before) × (gains ≡ no_gains)

-- and those of all entries
abbrev pub AllRest : {State : Type 0} → (State → ℕ) → Machine State → Act → List (ℕ × Cell)
    → Type 0
AllRest code_of machine act entries = All (λ entry. RestsAt code_of machine act entry.0) entries
