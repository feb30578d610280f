-- Sums that wrap at each step.
use Rattle.std.proofs.Common.{◌≡◌, ℕ, ◌+◌, ◌%◌, ◌<◌, List, [], ◌∷◌, sum, fold, arith, ◌∙◌}
use Rattle.std.proofs.lemmas.List.Sums.{sum_by-cons}

-- adding modulo 256 at each step gives the sum modulo 256
pub fold_wrapping : (a : ℕ) (xs : List ℕ) → a < 256
    → fold (λ s b. (s + b) % 256) a xs ≡ (a + sum xs) % 256
fold_wrapping a [] small = omega arith
fold_wrapping a (x ∷ xs) small =
    rw sum_by-cons (fold_wrapping ((a + x) % 256) xs (omega arith) ∙ omega arith)
