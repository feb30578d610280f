-- Which types a mask of 16 bits enables, and how a further mask adds to them.
use Rattle.mdb_machine.proofs.Words.{◌≡◌, ℕ, zero, suc, ◌<◌, ◌≤◌, ◌/◌, ◌%◌, ◌^◌, ◌==◌, ◌||◌, ◌∙◌, inl, inr, Bool, false, ltb, arith, ap, sym, refl, bit_or, max, cases_lt, le-ltb, lt-ltb, fun_ext, bit_at, Profile, enabled_after}
use Rattle.std.proofs.Math.Pow.{pow_mono}
use Rattle.std.proofs.lemmas.Nat.{div_below}
use Rattle.std.proofs.lemmas.Nat.Bits.{bit_at-lt, bit_at_ones, bit_at_ones_above, bit_at_or}
use Rattle.mdb_machine.specs.declared.past.Effect.TheVariants as effects

-- a mask of 16 bits has no bit after them
pub past_mask : (mask coin : ℕ) → mask < 65536 → 16 ≤ coin → bit_at mask coin ≡ 0
past_mask mask coin small past =
    let large : 2 ^ 16 ≤ 2 ^ coin = pow_mono past in
    let none : mask / 2 ^ coin < 1 =
    div_below mask (2 ^ coin) 1 (omega (arith, large)) (omega (arith, large)) in
    let zero_is : mask / 2 ^ coin ≡ 0 = omega (arith, none) in
    ap (λ n. n % 2) zero_is

-- the types that a mask of 16 bits enables, where all are
types_16 : (kind : ℕ) → (bit_at 65535 kind == 1) ≡ ltb kind 16
types_16 kind = elim (cases_lt kind 16) [
  | inl below ↦ ap (λ n. n == 1) (bit_at_ones 16 kind below) ∙ sym (lt-ltb kind 16 below)
  | inr past ↦ ap (λ n. n == 1) (bit_at_ones_above 16 kind past) ∙ sym (le-ltb kind 16 past)
]

-- the types of a mask
abbrev pub in_mask : ℕ → ℕ → Bool
in_mask mask kind = bit_at mask kind == 1

-- the types that there are
abbrev pub is_type : ℕ → Bool
is_type kind = ltb kind 16

pub all_types : in_mask 65535 ≡ is_type
all_types = fun_ext types_16

-- a bit of two masks put together
either_bit : (mask more kind : ℕ)
    → (bit_at (bit_or mask more) kind == 1) ≡ ((bit_at more kind == 1) || (bit_at mask kind == 1))
either_bit mask more kind =
    rw (bit_at_or mask more kind)
    (either (bit_at mask kind) (bit_at more kind) (bit_at-lt mask kind) (bit_at-lt more kind))
  where
    either : (a b : ℕ) → a < 2 → b < 2 → (max a b == 1) ≡ ((b == 1) || (a == 1))
    either zero zero p q = refl
    either zero (suc zero) p q = refl
    either (suc zero) zero p q = refl
    either (suc zero) (suc zero) p q = refl
    either (suc (suc a)) b p q = absurd (omega arith)
    either a (suc (suc b)) p q = absurd (omega arith)

-- the types that are enabled once a device takes a further mask
pub enabled_more : (profile : Profile) (mask more : ℕ)
    → in_mask (bit_or mask more)
    ≡ enabled_after profile false (effects.Enable more) (in_mask mask)
enabled_more profile mask more = fun_ext (either_bit mask more)
