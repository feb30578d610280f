-- Fields of digits, and the numbers that they stand for.
use Rattle.std.specs.Prelude.{◌≡◌, ◌+◌, ◌*◌, ◌^◌, ◌<◌, ◌≤◌, ℕ, List, [], ◌∷◌, length, map, All}
use Rattle.std.specs.Char.{IsAsciiDigit, IsAsciiHexdigit, digit_value}

-- the number that digits stand for in a base, the first digit weighing most
abbrev pub positional : ℕ → List ℕ → ℕ
positional base [] = 0
positional base (digit ∷ digits) = digit * base ^ length digits + positional base digits

-- a field of 1 to `most` decimal digits, and its number
pub record IsDecimal (most : ℕ) (field : List ℕ) (n : ℕ) : Type 0 where
  pub some : 1 ≤ length field
  pub few : length field ≤ most
  pub digits : All IsAsciiDigit field
  pub value : n ≡ positional 10 (map digit_value field)

-- a field of three hexadecimal digits of either case up to 1FF, and its word
pub record IsHexWord (field : List ℕ) (word : ℕ) : Type 0 where
  pub three : length field ≡ 3
  pub digits : All IsAsciiHexdigit field
  pub value : word ≡ positional 16 (map digit_value field)
  pub small : word < 512
