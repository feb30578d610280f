-- What the needs of one byte, of two and of more bytes have to do with each other.
use Rattle.std.proofs.lemmas.Grind.{common_steps}
use Rattle.mdb_bus.proofs.Words.{[], arith, Device, Exactly, length, List, More, Need, need, need_for, needed, None, Option, refl, Some, ℕ, ◌++◌, ◌<◌, ◌∷◌, ◌≡◌, ◌≤◌}
use Rattle.mdb_msgs.specs.Needs.{device_at}
use Rattle.mdb_msgs.specs.declared.command.Device.TheVariants.{Changer}

-- How the need of a first byte goes with that of two. What the first byte tells stays, and what it
-- leaves to the second is told then.
pub record Narrows (told : Option ℕ → Need) : Type 0 where
  -- a length stays
  pub known : (second n : ℕ) → told None ≡ Exactly n → told (Some second) ≡ Exactly n
  -- one that the second byte tells is at least 3
  pub left : (second n : ℕ) → told None ≡ More → told (Some second) ≡ Exactly n → 2 < n
  -- lengths are 2 to 32
  pub lengths : (n : ℕ) → told None ≡ Exactly n → (2 ≤ n) × (n ≤ 32)
  pub lengths_two : (second n : ℕ) → told (Some second) ≡ Exactly n → (2 ≤ n) × (n ≤ 32)
  -- two bytes leave nothing to a third
  pub done : (second : ℕ) → told (Some second) ≡ More → ⊥

by_device : (first : ℕ) (device : Option Device) → Narrows (need_for device first)
by_device first (Some Changer) = record {
  known = λ second n told. grind (arith, common_steps);
  left = λ second n left told. grind (arith, common_steps);
  lengths = λ n told. (grind (arith, common_steps), grind (arith, common_steps));
  lengths_two = λ second n told. (grind (arith, common_steps), grind (arith, common_steps));
  done = λ second told. grind (arith, common_steps);
}
by_device first device = record {
  known = λ second n told. grind (arith, common_steps);
  left = λ second n left told. grind (arith, common_steps);
  lengths = λ n told. (grind (arith, common_steps), grind (arith, common_steps));
  lengths_two = λ second n told. (grind (arith, common_steps), grind (arith, common_steps));
  done = λ second told. grind (arith, common_steps);
}

pub narrows : (first : ℕ) → Narrows (need first)
narrows first = by_device first (device_at first)

-- a length is 2 to 32
pub from_2_to_32 : (bytes : List ℕ) (n : ℕ) → 0 < length bytes → needed bytes ≡ Exactly n
    → (2 ≤ n) × (n ≤ 32)
from_2_to_32 [] n some told = absurd (omega arith)
from_2_to_32 (first ∷ []) n some told = (narrows first).lengths n told
from_2_to_32 (first ∷ second ∷ bytes) n some told = (narrows first).lengths_two second n told

-- two bytes tell what they and more bytes need
pub stays : (bytes more : List ℕ) → 2 ≤ length bytes → needed (bytes ++ more) ≡ needed bytes
stays (first ∷ second ∷ bytes) more two = refl
stays bytes more two = absurd (omega arith)

-- and don't leave it to a third
pub not_left : (bytes : List ℕ) → 2 ≤ length bytes → needed bytes ≡ More → ⊥
not_left (first ∷ second ∷ bytes) two told = (narrows first).done second told
not_left bytes two told = absurd (omega arith)
