-- The words of a block, one by one.
use Rattle.std.proofs.Common.{◌≡◌, ℕ, ◌+◌, ◌<◌, List, [], ◌∷◌, length, slice_index, nat_eq, cond, arith, zero, suc}
use Rattle.mdb_words.specs.Block.{peripheral_words}

pub peripheral_word : (bytes : List ℕ) (i : ℕ) → i < length bytes
    → slice_index (peripheral_words bytes) i
    ≡ cond (nat_eq (i + 1) (length bytes)) (256 + slice_index bytes i) (slice_index bytes i)
peripheral_word [] i h = omega arith
peripheral_word (byte ∷ []) zero h = grind arith
peripheral_word (byte ∷ []) (suc i) h = omega arith
peripheral_word (byte ∷ next ∷ bytes) zero h = grind arith
peripheral_word (byte ∷ next ∷ bytes) (suc i) h =
    let rest : slice_index (peripheral_words (next ∷ bytes)) i
    ≡ cond (nat_eq (i + 1) (length (next ∷ bytes))) (256 + slice_index (next ∷ bytes) i)
    (slice_index (next ∷ bytes) i) =
    peripheral_word (next ∷ bytes) i (omega arith) in
    grind arith
