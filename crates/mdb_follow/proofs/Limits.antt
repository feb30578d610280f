-- How far from 0 the ends of tables are.
use Rattle.mdb_follow.proofs.Words.{ℕ, ◌≤◌, List, [], ◌∷◌, get_or, All-head, All-tail, Cell, joined_cell, IsCellWithin, IsTableWithin, joined_cells, ◌+◌, ◌*◌, ◌^◌, arith, ∥∥₁_map, Sides, Act, side_in, AreStanding, AreWithin, IsSideWithin, SidesFollow}
use Rattle.mdb_follow.proofs.Ends.{cell-joined-within, cell-within-weaker}
use Rattle.mdb_follow.specs.declared.side.Side.{Side}

pub table-within-weaker : (limit more : ℕ) (entries : List (ℕ × Cell)) → limit ≤ more
    → IsTableWithin limit entries → IsTableWithin more entries
table-within-weaker limit more entries le all k d within =
    cell-within-weaker limit more (get_or entries k d).1 le (all k d within)

-- and those of the join of a cell and the cells of a table
pub joined-within : (limit : ℕ) (cell : Cell) (entries : List (ℕ × Cell))
    → IsCellWithin limit cell → IsTableWithin limit entries
    → IsCellWithin limit (joined_cells cell entries)
joined-within limit cell [] first rest = first
joined-within limit cell (entry ∷ entries) first rest =
    joined-within limit (joined_cell cell entry.1) entries
    (cell-joined-within limit cell entry.1 first
    (All-head (λ (e : ℕ × Cell). IsCellWithin limit e.1) entry entries rest))
    (All-tail (λ (e : ℕ × Cell). IsCellWithin limit e.1) entry entries rest)

-- and those of sides and their counts, by the rows of a recording
pub side-within-weaker : {Facts : Type 0} {N : ℕ} (limit more : ℕ) (side : Side Facts N)
    → limit ≤ more → IsSideWithin limit side → IsSideWithin more side
side-within-weaker limit more side le is =
    let count = is.count in
    record {
      ends = table-within-weaker limit more side.table le is.ends;
      count = omega (arith, le, count);
    }

pub sides-within-weaker : (limit more : ℕ) (sides : Sides) → limit ≤ more
    → AreWithin limit sides → AreWithin more sides
sides-within-weaker limit more sides le is device =
    side-within-weaker limit more (side_in sides device) le (is device)

-- sides that go on from some within the limit of so many rows are within that of one row more
pub sides-within-next : (rows : ℕ) (old : Sides) (act : Act) (new : Sides)
    → AreWithin (rows * 2 ^ 32) old → SidesFollow old act new
    → AreWithin ((rows + 1) * 2 ^ 32) new
sides-within-next rows old act new within follows =
    sides-within-weaker (rows * 2 ^ 32 + 2 ^ 32) ((rows + 1) * 2 ^ 32) new (omega arith)
    (λ device. (follows device).within (rows * 2 ^ 32) (within device))

-- sides that stand for acts go on to sides that do
pub standing-next : (old : Sides) (act : Act) (new : Sides) → ∥ AreStanding old ∥₁
    → SidesFollow old act new → ∥ AreStanding new ∥₁
standing-next old act new standing follows = ∥∥₁_map standing (λ on. record {
  begins = on.begins;
  acts = act ∷ on.acts;
  stand = λ device. (follows device).stands on.begins on.acts (on.stand device);
})
