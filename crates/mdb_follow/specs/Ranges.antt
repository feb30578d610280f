-- The least and the greatest of sums.
use Rattle.std.specs.Prelude.{◌≡◌, ℤ, pos, ◌≤ℤ◌}
use Rattle.mdb_follow.specs.declared.range.Range.{Range}
use Rattle.mdb_follow.specs.declared.account.Account.{Account}

-- Each end of a range is the value of something of a kind, and no such value lies outside.
pub record IsRange {S : Type 0} (Kind : S → Type 0) (value : S → ℤ) (range : Range) : Type 0 where
  pub least : (sums : S) × Kind sums × (value sums ≡ range.least)
  pub greatest : (sums : S) × Kind sums × (value sums ≡ range.greatest)
  pub low : (sums : S) → Kind sums → range.least ≤ℤ value sums
  pub high : (sums : S) → Kind sums → value sums ≤ℤ range.greatest

-- what stands for an account that a list lacks; reports and cells lack none
abbrev pub no_range : Range
no_range = record { least = pos 0; greatest = pos 0 }

abbrev pub no_account : Account
no_account = record { device = no_range; controller = no_range; difference = no_range }
