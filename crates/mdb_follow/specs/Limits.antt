-- How far from 0 the ends of ranges are, so that they stay numbers of 64 bits. This serves `Table`,
-- reports and private functions.
use Rattle.std.specs.Prelude.{ℕ, ◌<◌, List, All, pos, neg_ℤ, ◌≤ℤ◌}
use Rattle.mdb_machine.specs.declared.gains.TheConstants.{SLOTS}
use Rattle.mdb_follow.specs.declared.range.Range.{Range}
use Rattle.mdb_follow.specs.declared.account.Account.{Account}
use Rattle.mdb_follow.specs.declared.cell.Cell.{Cell}
use Rattle.mdb_follow.specs.Cells.{slot_account}

-- both ends of a range are at most so far from 0
pub record IsRangeWithin (limit : ℕ) (range : Range) : Type 0 where
  pub least_low : neg_ℤ (pos limit) ≤ℤ range.least
  pub least_high : range.least ≤ℤ pos limit
  pub greatest_low : neg_ℤ (pos limit) ≤ℤ range.greatest
  pub greatest_high : range.greatest ≤ℤ pos limit

-- those of all ranges
pub record IsAccountWithin (limit : ℕ) (ranges : Account) : Type 0 where
  pub device : IsRangeWithin limit ranges.device
  pub controller : IsRangeWithin limit ranges.controller
  pub difference : IsRangeWithin limit ranges.difference

abbrev pub IsCellWithin : ℕ → Cell → Type 0
IsCellWithin limit cell =
    (slot : ℕ) → slot < SLOTS → IsAccountWithin limit (slot_account cell slot)

-- all ends of a table are at most so far from 0
abbrev pub IsTableWithin : ℕ → List (ℕ × Cell) → Type 0
IsTableWithin limit entries = All (λ entry. IsCellWithin limit entry.1) entries
