-- What stands by slot.
use Rattle.mdb_machine.proofs.Words.{◌≡◌, ℕ, zero, suc, ◌<◌, ◌^◌, List, [], ◌∷◌, get_or, slice_index, refl, arith, AllByRecursion, by_slot, AreSmall}
use Rattle.mdb_machine.specs.declared.gains.TheConstants.{SLOTS}

-- what is listed by slot is there for each slot
pub at_slot : {X : Type 0} (of : ℕ → X) (slot : ℕ) (d : X) → slot < SLOTS
    → get_or (by_slot of) slot d ≡ of slot
at_slot of zero d below = refl
at_slot of (suc zero) d below = refl
at_slot of (suc (suc slot)) d below = absurd (omega (arith, below))

-- two things are those for each slot, if each is
pub two_by_slot : {X : Type 0} (of : ℕ → X) (first second : X) → first ≡ of 0 → second ≡ of 1
    → first ∷ second ∷ [] ≡ by_slot of
two_by_slot of first second one other = cc

-- of amounts below a limit each is below it
pub below_at : (limit : ℕ) (amounts : List ℕ) (slot : ℕ) → 0 < limit
    → AllByRecursion (λ amount. amount < limit) amounts → slice_index amounts slot < limit
below_at limit [] slot some below = some
below_at limit (amount ∷ amounts) zero some below = below.0
below_at limit (amount ∷ amounts) (suc slot) some below =
    below_at limit amounts slot some below.1

pub small_at : (amounts : List ℕ) (slot : ℕ) → AreSmall amounts
    → slice_index amounts slot < 2 ^ 32
small_at amounts slot small = below_at (2 ^ 32) amounts slot (omega arith) small

-- and in a slot where nothing was gained, there is nothing
pub none_at : (slot : ℕ) → slice_index (by_slot (λ slot. 0)) slot ≡ 0
none_at zero = refl
none_at (suc zero) = refl
none_at (suc (suc slot)) = refl
