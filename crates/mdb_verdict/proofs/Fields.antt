-- The fields of a record.
use Rattle.std.proofs.Common.{arith, ◌≡◌, ◌<◌, ℕ, zero, suc, List, [], ◌∷◌, Some, None, length}
use Rattle.csv.specs.Records.{field_at}

-- a record has the fields below its length
pub field_some : (fields : List (List ℕ)) (i : ℕ) → i < length fields → field_at fields i ≡ None → ⊥
unfolding field_at
field_some [] i below none = absurd (omega (arith, below))
field_some (f ∷ fields) zero below none = cc
field_some (f ∷ fields) (suc i) below none = field_some fields i (omega (arith, below)) none

-- the three fields of a record of three
pub three_fields : (fields : List (List ℕ)) (a b c : List ℕ) → length fields ≡ 3
    → field_at fields 0 ≡ Some a → field_at fields 1 ≡ Some b → field_at fields 2 ≡ Some c
    → fields ≡ a ∷ b ∷ c ∷ []
unfolding field_at
three_fields (f ∷ g ∷ h ∷ []) a b c long x y z =
    let first : f ≡ a = cc in
    let second : g ≡ b = cc in
    let third : h ≡ c = cc in
    cc
three_fields fields a b c long x y z = absurd (omega (arith, long))
