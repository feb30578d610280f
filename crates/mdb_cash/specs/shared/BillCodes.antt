-- The codes of the validator's states, and that states and codes are one to one. Which state has
-- which code is irrelevant.
use Rattle.std.specs.Prelude.{◌≡◌, ℕ, zero, suc, ◌+◌, ◌<◌, Bool, true, false, if◌then◌else◌, refl}
use Rattle.std.proofs.Common.{arith, ap, inl, inr, subst, ◌-◌}
use Rattle.std.proofs.Math.Bridge.{le_prop}
use Rattle.std.proofs.lemmas.Bool.{cases_lt}
use Rattle.mdb_cash.specs.declared.bill.state.BillState.{BillState}
use Rattle.mdb_cash.specs.declared.bill.state.BillType.{BillType}
use Rattle.mdb_cash.specs.declared.bill.state.Escrow.{Escrow}
use Rattle.mdb_cash.specs.declared.bill.state.Escrow.TheVariants.{Empty, Waiting, Ordered}

-- the code of what is in escrow, below 33
abbrev pub escrow_code : Escrow → ℕ
escrow_code Empty = 0
escrow_code (Waiting bill) = 1 + bill.number
escrow_code (Ordered bill) = 17 + bill.number

-- the code of a state
abbrev pub code_of : BillState → ℕ
code_of state = escrow_code state.escrow + (if state.holds then 33 else 0)

-- the type of a number below 16
abbrev pub type_of : (number : ℕ) → number < 16 → BillType
type_of number few = record { number = number; few = few }

-- types of one number are one
pub same_type : (one other : BillType) → one.number ≡ other.number → one ≡ other
same_type one other e =
    subst (λ (n : ℕ). (few : n < 16) → one ≡ type_of n few) e
    (λ few. ap (type_of one.number) (le_prop one.few few)) other.few

same_escrow : (one other : Escrow) → escrow_code one ≡ escrow_code other → one ≡ other
same_escrow Empty Empty e = refl
same_escrow Empty (Waiting bill) e = absurd (omega (arith, e))
same_escrow Empty (Ordered bill) e = absurd (omega (arith, e))
same_escrow (Waiting bill) Empty e = absurd (omega (arith, e))
same_escrow (Waiting one) (Waiting other) e = ap Waiting (same_type one other (omega (arith, e)))
same_escrow (Waiting one) (Ordered other) e = absurd (omega (arith, e, one.few, other.few))
same_escrow (Ordered bill) Empty e = absurd (omega (arith, e))
same_escrow (Ordered one) (Waiting other) e = absurd (omega (arith, e, one.few, other.few))
same_escrow (Ordered one) (Ordered other) e = ap Ordered (same_type one other (omega (arith, e)))

-- codes of what is in escrow are below 33
escrow_below : (escrow : Escrow) → escrow_code escrow < 33
escrow_below Empty = omega arith
escrow_below (Waiting bill) = omega (arith, bill.few)
escrow_below (Ordered bill) = omega (arith, bill.few)

same_parts : (a b : ℕ) (h i : Bool) → a < 33 → b < 33
    → (a + (if h then 33 else 0)) ≡ (b + (if i then 33 else 0)) → (a ≡ b) × (h ≡ i)
same_parts a b true true p q e = (omega (arith, p, q, e), refl)
same_parts a b true false p q e = absurd (omega (arith, p, q, e))
same_parts a b false true p q e = absurd (omega (arith, p, q, e))
same_parts a b false false p q e = (omega (arith, p, q, e), refl)

-- two states have two codes
pub apart : (one other : BillState) → code_of one ≡ code_of other → one ≡ other
apart one other e =
    let parts =
    same_parts (escrow_code one.escrow) (escrow_code other.escrow) one.holds other.holds
    (escrow_below one.escrow) (escrow_below other.escrow) e in
    let escrow : one.escrow ≡ other.escrow = same_escrow one.escrow other.escrow parts.0 in
    let holds : one.holds ≡ other.holds = parts.1 in
    let same : record one { holds = one.holds } ≡ record other { holds = other.holds } =
    cc (escrow, holds) in
    same

small_parts : (a : ℕ) (h : Bool) → a < 33 → (a + (if h then 33 else 0)) < 66
small_parts a true p = omega (arith, p)
small_parts a false p = omega (arith, p)

-- codes are below 66
pub below : (state : BillState) → code_of state < 66
below state = small_parts (escrow_code state.escrow) state.holds (escrow_below state.escrow)

-- each number below 33 is the code of what is in escrow
escrow_of : (code : ℕ) → code < 33 → (escrow : Escrow) × (escrow_code escrow ≡ code)
escrow_of zero small = (Empty, refl)
escrow_of (suc n) small =
    elim (cases_lt n 16) [
      | inl few ↦
          let same : 1 + n ≡ suc n = omega arith in
          (Waiting (type_of n few), same)
      | inr past ↦
          let few : n - 16 < 16 = omega (arith, small, past) in
          let same : 17 + (n - 16) ≡ suc n = omega (arith, past) in
          (Ordered (type_of (n - 16) few), same)
    ]

-- each number below 66 is a code
pub whole : (code : ℕ) → code < 66 → (state : BillState) × (code_of state ≡ code)
whole code small =
    elim (cases_lt code 33) [
      | inl low ↦
          let found = escrow_of code low in
          let same : escrow_code found.0 + 0 ≡ code = omega (arith, found.1) in
          (record { escrow = found.0; holds = false }, same)
      | inr high ↦
          let low : code - 33 < 33 = omega (arith, small, high) in
          let found = escrow_of (code - 33) low in
          let same : escrow_code found.0 + 33 ≡ code = omega (arith, found.1, high) in
          (record { escrow = found.0; holds = true }, same)
    ]
