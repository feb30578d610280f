-- The steps by codes are those of the machine of the profile, and of a state of the other one.
use Rattle.mdb_cashless.proofs.Words.{◌≡◌, ◌+◌, ◌-◌, ◌<◌, ◌≤◌, None, arith, refl, StateByProfile, Base, Extended, READER_STATES, base_state, extended_state, unit_of, base_part, extended_part}
use Rattle.mdb_cashless.specs.ExtendedReader as extended
use Rattle.mdb_cashless.specs.Reader as base
use Rattle.mdb_cashless.specs.shared.ApprovalCodes as extended_codes
use Rattle.mdb_cashless.specs.shared.ByProfileCodes.{code_of}
use Rattle.mdb_cashless.specs.shared.ReaderCodes as base_codes
use Rattle.mdb_cashless.proofs.ByProfile.{IsStray, is_base, is_extended, one_step, placed_steps, stray_step}
use Rattle.mdb_cashless.proofs.by_profile.ReaderByProfilePair.steps.Goals as goal
use Rattle.mdb_cashless.proofs.by_profile.ReaderByProfilePair.steps.Goals.{in_default-via-in-Base+else-code-lt-READER_STATES, in_default-via-in-Extended+else-code-ge-READER_STATES}

large : (state : StateByProfile) → READER_STATES ≤ code_of state → base_state state ≡ None
large (Base its) many = absurd (omega (arith, many, base_codes.below its))
large (Extended its) many = refl

small : (state : StateByProfile) → code_of state < READER_STATES → extended_state state ≡ None
small (Base its) few = refl
small (Extended its) few = absurd (omega (arith, few))

pub raised-requires-clause-below : goal.raised-requires-clause-below
raised-requires-clause-below g c = rw c.as_slice.ensures.value
    (λ code gains has. (c.steps-steps.ensures.below code gains has).0)

pub returns-in-Base-clause-steps : goal.returns-in-Base-clause-steps
returns-in-Base-clause-steps g c = rw c.in-Base.is (λ begins so_far stands.
    let is = is_base _ _ stands in
    let its = base_codes.whole c.args.code c.if-code-lt-READER_STATES.true in
    rw is.0 (placed_steps base_state base_part (Base base.power_on)
    (base.machine (unit_of g.row.UNIT) begins) so_far c.args.act.now c.args.choice
    base_codes.code_of (λ n. n) (λ its. refl) its.0 c.args.code c.args.code its.1 refl _ _
    (λ next gains. (λ has. (next, refl, has), λ has. rw has.1 at has.2))
    (c.steps.ensures.steps begins so_far is.1)))

pub returns-in-Base-clause-below : goal.returns-in-Base-clause-below
returns-in-Base-clause-below g c = λ next gains has.
    let below = c.steps.ensures.below next gains has in (omega (arith, below.0), below.1)

pub returns-in-Extended-clause-steps : goal.returns-in-Extended-clause-steps
returns-in-Extended-clause-steps g c = rw c.in-Extended.is (λ begins so_far stands.
    let is = is_extended _ _ stands in
    let its = extended_codes.whole (c.args.code - READER_STATES) (omega (arith, c.requires)) in
    rw is.0 (placed_steps extended_state extended_part (Extended extended.power_on)
    (extended.machine (unit_of g.row.UNIT) begins) so_far c.args.act.now c.args.choice
    extended_codes.code_of (λ n. READER_STATES + n) (λ its. refl) its.0 _ c.args.code its.1
    (omega (arith, c.if-code-ge-READER_STATES.true)) _ _
    (rw c.as_slice.ensures.value at c.raised.ensures)
    (c.steps-steps.ensures.steps begins so_far is.1)))

pub returns-in-Extended-clause-below : goal.returns-in-Extended-clause-below
returns-in-Extended-clause-below g c = λ next gains has.
    let raised = (c.raised.ensures next gains).0 has in
    let below = c.steps-steps.ensures.below raised.0 gains
    (rw c.as_slice.ensures.value at raised.2) in
    (omega (arith, raised.1, below.0), below.1)

pub returns-in_default-clause-steps : goal.returns-in_default-clause-steps
returns-in_default-clause-steps g c =
    let stray : IsStray c.args.known.now c.state.result = elim c.in_default.branch [
      | in_default-via-in-Base+else-code-lt-READER_STATES w ↦ rw w.in-Base.is (large c.state.result
          (omega (arith, w.if-code-lt-READER_STATES.false, c.state.ensures)))
      | in_default-via-in-Extended+else-code-ge-READER_STATES w ↦ rw w.in-Extended.is (small
          c.state.result (omega (arith, w.if-code-ge-READER_STATES.false, c.state.ensures)))
    ] in
    rw (
      c.push.ensures.items,
      c.code.ensures,
      c.strayed-after.ensures,
      c.none.ensures,
      c.new-steps.ensures,
    )
    (λ begins so_far stands. one_step _ c.state.result _ c.args.code c.state.ensures
    (stray_step _ begins so_far _ _ c.args.known.now c.state.result stray stands))
