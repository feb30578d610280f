-- The codes of the states of a reader that follows approvals, and that states and codes are one to
-- one. Which state has which code is irrelevant.
use Rattle.std.specs.Prelude.{◌≡◌, ◌==◌, ℕ, zero, suc, ◌+◌, ◌*◌, ◌/◌, ◌%◌, ◌<◌, Bool, true, false, if◌then◌else◌, refl}
use Rattle.std.proofs.Common.{arith, sym, ap, ◌∙◌}
use Rattle.mdb_cashless.specs.declared.approvals.state.ApprovalState.{ApprovalState}

-- a yes or no as a number
abbrev pub number : Bool → ℕ
number is = if is then 1 else 0

-- the code of a state, and the state of a code
abbrev pub code_of : ApprovalState → ℕ
code_of state = 4 * number state.asked + 2 * number state.approved + number state.again

abbrev state_at : ℕ → ApprovalState
state_at code =
    record { asked = code / 4 == 1; approved = code % 4 / 2 == 1; again = code % 2 == 1 }

abbrev IsBack : ApprovalState → Type 0
IsBack state = (state_at (code_of state) ≡ state) × (code_of state < 8)

back : (asked approved again : Bool)
    → IsBack (record { asked = asked; approved = approved; again = again })
back true true true = (refl, omega arith)
back true true false = (refl, omega arith)
back true false true = (refl, omega arith)
back true false false = (refl, omega arith)
back false true true = (refl, omega arith)
back false true false = (refl, omega arith)
back false false true = (refl, omega arith)
back false false false = (refl, omega arith)

-- two states have two codes
pub apart : (one other : ApprovalState) → code_of one ≡ code_of other → one ≡ other
apart one other e =
    sym (back one.asked one.approved one.again).0 ∙ ap state_at e
    ∙ (back other.asked other.approved other.again).0

-- codes are below 8
pub below : (state : ApprovalState) → code_of state < 8
below state = (back state.asked state.approved state.again).1

-- each number below 8 is a code
few : (n : ℕ) → n < 2 → number (n == 1) ≡ n
few zero small = refl
few (suc zero) small = refl
few (suc (suc n)) small = absurd (omega (arith, small))

pub whole : (code : ℕ) → code < 8 → (state : ApprovalState) × (code_of state ≡ code)
whole code small =
    let asked = few (code / 4) (omega (arith, small)) in
    let approved = few (code % 4 / 2) (omega (arith, small)) in
    let again = few (code % 2) (omega (arith, small)) in
    let sum : 4 * number (code / 4 == 1) + 2 * number (code % 4 / 2 == 1) + number (code % 2 == 1)
    ≡ code =
    omega (arith, small, asked, approved, again) in
    (state_at code, sum)
