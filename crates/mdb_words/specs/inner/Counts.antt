-- What bytes count as digits. This serves private functions.
use Rattle.std.specs.Prelude.{◌≡◌, ◌*◌, ◌^◌, ◌<◌, ◌≤◌, ℕ, List, length}
use Rattle.std.specs.Char.{digit_value}
use Rattle.std.specs.Str.Parse.{AllDigits, digits_value}

-- what a byte counts as the digit of a base at a place, the ones at place 0, and what one counts
-- that is no digit
pub record IsCount (base none place byte count : ℕ) : Type 0 where
  pub digit : digit_value byte < base → count ≡ digit_value byte * base ^ place
  pub other : base ≤ digit_value byte → count ≡ none

-- what up to eight bytes count together: their number where all are decimal digits, else too much
pub record IsCounted (bytes : List ℕ) (count : ℕ) : Type 0 where
  pub digits : count < 100000000 → AllDigits 10 bytes
  pub number : AllDigits 10 bytes → count ≡ digits_value 10 bytes

-- 1 to 18 decimal digits
abbrev pub IsTime : List ℕ → Type 0
IsTime bytes = (1 ≤ length bytes) × (length bytes ≤ 18) × AllDigits 10 bytes

-- the front of 16 to 18 bytes, all decimal digits
abbrev pub IsFront : List ℕ → List ℕ → Type 0
IsFront bytes front = (16 ≤ length bytes) × (length bytes ≤ 18) × AllDigits 10 front
