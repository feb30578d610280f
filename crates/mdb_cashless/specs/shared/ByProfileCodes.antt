-- The codes of a reader's states by either profile: first those of the base profile. States and
-- codes are one to one.
use Rattle.std.specs.Prelude.{◌≡◌, ℕ, ◌+◌, ◌-◌, ◌<◌}
use Rattle.std.proofs.Common.{ap, arith, inl, inr}
use Rattle.std.proofs.lemmas.Bool.{cases_lt}
use Rattle.mdb_cashless.specs.declared.by_profile.state.StateByProfile.{StateByProfile}
use Rattle.mdb_cashless.specs.declared.by_profile.state.StateByProfile.TheVariants.{Base, Extended}
use Rattle.mdb_cashless.specs.declared.by_profile.state.TheConstants.{STATES_BY_PROFILE}
use Rattle.mdb_cashless.specs.declared.reader.state.TheConstants.{READER_STATES}
use Rattle.mdb_cashless.specs.shared.ApprovalCodes as extended
use Rattle.mdb_cashless.specs.shared.ReaderCodes as base

abbrev pub code_of : StateByProfile → ℕ
code_of (Base state) = base.code_of state
code_of (Extended state) = READER_STATES + extended.code_of state

-- two states have two codes
pub apart : (one other : StateByProfile) → code_of one ≡ code_of other → one ≡ other
apart (Base s) (Base t) e = ap Base (base.apart s t e)
apart (Extended s) (Extended t) e = ap Extended (extended.apart s t (omega (arith, e)))
apart (Base s) (Extended t) e = absurd (omega (arith, e, base.below s))
apart (Extended s) (Base t) e = absurd (omega (arith, e, base.below t))

-- each state has a code below the number of states
pub below : (state : StateByProfile) → code_of state < STATES_BY_PROFILE
below (Base state) = omega (arith, base.below state)
below (Extended state) = omega (arith, extended.below state)

-- each number below it is a code
pub whole : (code : ℕ) → code < STATES_BY_PROFILE
    → (state : StateByProfile) × (code_of state ≡ code)
whole code few =
    elim (cases_lt code READER_STATES) [
      | inl small ↦ let found = base.whole code small in (Base found.0, found.1)
      | inr large ↦
          let found = extended.whole (code - READER_STATES) (omega (arith, few, large)) in
          (Extended found.0, omega (arith, found.1, large))
    ]
