-- The codes of the changer's states, and that states and codes are one to one. Which state has
-- which code is irrelevant.
use Rattle.std.specs.Prelude.{◌≡◌, ℕ, zero, suc, ◌+◌, ◌<◌, Bool, true, false, if◌then◌else◌, refl}
use Rattle.std.proofs.Common.{arith}
use Rattle.mdb_cash.specs.declared.changer.state.ChangerState.{ChangerState}

-- the code of a state
abbrev pub code_of : ChangerState → ℕ
code_of state = (if state.holds then 1 else 0) + (if state.dispense_owed then 2 else 0)

same_parts : (h o i p : Bool)
    → ((if h then 1 else 0) + (if o then 2 else 0)) ≡ ((if i then 1 else 0) + (if p then 2 else 0))
    → (h ≡ i) × (o ≡ p)
same_parts true true true true e = (refl, refl)
same_parts true false true false e = (refl, refl)
same_parts false true false true e = (refl, refl)
same_parts false false false false e = (refl, refl)
same_parts true true true false e = absurd (omega arith)
same_parts true true false true e = absurd (omega arith)
same_parts true true false false e = absurd (omega arith)
same_parts true false true true e = absurd (omega arith)
same_parts true false false true e = absurd (omega arith)
same_parts true false false false e = absurd (omega arith)
same_parts false true true true e = absurd (omega arith)
same_parts false true true false e = absurd (omega arith)
same_parts false true false false e = absurd (omega arith)
same_parts false false true true e = absurd (omega arith)
same_parts false false true false e = absurd (omega arith)
same_parts false false false true e = absurd (omega arith)

-- two states have two codes
pub apart : (one other : ChangerState) → code_of one ≡ code_of other → one ≡ other
apart one other e =
    let parts = same_parts one.holds one.dispense_owed other.holds other.dispense_owed e in
    let holds : one.holds ≡ other.holds = parts.0 in
    let owed : one.dispense_owed ≡ other.dispense_owed = parts.1 in
    let same : record one { holds = one.holds } ≡ record other { holds = other.holds } =
    cc (holds, owed) in
    same

small_parts : (h o : Bool) → ((if h then 1 else 0) + (if o then 2 else 0)) < 4
small_parts true true = omega arith
small_parts true false = omega arith
small_parts false true = omega arith
small_parts false false = omega arith

-- codes are below 4
pub below : (state : ChangerState) → code_of state < 4
below state = small_parts state.holds state.dispense_owed

-- each number below 4 is a code
pub whole : (code : ℕ) → code < 4 → (state : ChangerState) × (code_of state ≡ code)
whole zero small = (record { holds = false; dispense_owed = false }, refl)
whole (suc zero) small = (record { holds = true; dispense_owed = false }, refl)
whole (suc (suc zero)) small = (record { holds = false; dispense_owed = true }, refl)
whole (suc (suc (suc zero))) small = (record { holds = true; dispense_owed = true }, refl)
whole (suc (suc (suc (suc code)))) small = absurd (omega arith)
