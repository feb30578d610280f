-- Numbers of two and of four bytes.
use Rattle.std.specs.Prelude.{ℕ, ◌/◌, ◌%◌, List, [], ◌∷◌, ◌++◌}

-- the high byte first
abbrev pub two_bytes : ℕ → List ℕ
two_bytes number = (number / 256) ∷ (number % 256) ∷ []

-- the same of a number of four
abbrev pub four_bytes : ℕ → List ℕ
four_bytes number = two_bytes (number / 65536) ++ two_bytes (number % 65536)
