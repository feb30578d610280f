-- What makes a block.
use Rattle.std.proofs.Common.{◌≡◌, ℕ, ◌-◌, ◌%◌, ◌<◌, ◌≤◌, List, [], ◌∷◌, ◌++◌, length, sum, take, slice_index, Fits, w8, arith, suc, ap, sym, ◌∙◌}
use Rattle.std.proofs.lemmas.List.{length-take-le, get_or-take}
use Rattle.std.proofs.lemmas.Grind.{get_or_default_zero}
use Rattle.std.proofs.Math.Seq.{take-suc, take-length}
use Rattle.mdb_words.specs.BlockFaults.{IsBlock}

split_last : (bytes : List ℕ) (n : ℕ) → length bytes ≡ suc n
    → bytes ≡ take n bytes ++ (slice_index bytes n ∷ [])
split_last bytes n e =
    let below : n < length bytes = omega arith in
    sym (take-length bytes) ∙ ap (λ k. take k bytes) e ∙ take-suc bytes n 0 below

-- bytes of which the last is the sum of the others
pub block_from_sum : (bytes : List ℕ) → 2 ≤ length bytes → length bytes ≤ 36
    → ((i : ℕ) → Fits w8 (slice_index bytes i))
    → sum (take (length bytes - 1) bytes) % 256 ≡ slice_index bytes (length bytes - 1)
    → IsBlock bytes
block_from_sum bytes least most fits summed =
    let n : length (take (length bytes - 1) bytes) ≡ length bytes - 1 =
    length-take-le (length bytes - 1) bytes (omega arith) in
    record {
      content = take (length bytes - 1) bytes;
      is_content = record {
        at_least = omega arith;
        at_most = omega arith;
        in_range = λ k d below.
            let here : k < length bytes - 1 = omega arith in
            let at : k < length bytes = omega arith in
            let fit : Fits w8 (slice_index bytes k) = fits k in
            grind (arith, get_or-take, get_or_default_zero);
      };
      summed =
          split_last bytes (length bytes - 1) (omega arith)
          ∙ ap (λ b. take (length bytes - 1) bytes ++ (b ∷ [])) (sym summed);
    }
