-- A way of a reader by either profile is one of the machine of its profile.
use Rattle.mdb_follow.proofs.Words.{refl, ◌≡◌, List, [], ◌∷◌, Option, Some, None, IsSomeAnd, same_Some, Act, Gains, Machine, StateByProfile, Choices, Follows, Sums, StepOf, machine_in}

module _ {State : Type 0} (its_state : StateByProfile → Option State) (power_on : StateByProfile)
    (machine : Machine State) where
  starts_in : (found : Option State) → IsSomeAnd found machine.Starts
      → (one : State) × (found ≡ Some one) × machine.Starts one
  starts_in (Some one) starts = (one, refl, starts)
  starts_in None starts = absurd starts

  step_in : (Step : State → State → Gains → Type 0) (Stray : Type 0) (before after : Option State)
      (gains : Gains) (one : State) → before ≡ Some one → StepOf Step Stray before after gains
      → (other : State) × (after ≡ Some other) × Step one other gains
  step_in Step Stray (Some x) (Some y) gains one is step =
      (y, refl, rw (same_Some x one is) at step)
  step_in Step Stray (Some x) None gains one is step = absurd step
  step_in Step Stray None after gains one is step = absurd (cc is)

  pub own_way : (so_far : List Act) (chosen : Choices so_far) (state : StateByProfile) (sums : Sums)
      → Follows (machine_in its_state power_on machine) so_far chosen state sums
      → (one : State) × (its_state state ≡ Some one) × Follows machine so_far chosen one sums
  own_way [] chosen state sums way =
      let start = starts_in (its_state state) way.0 in (start.0, start.1, (start.2, way.1))
  own_way (act ∷ so_far) chosen state sums way =
      let before = own_way so_far chosen.before way.before way.sums_before way.way in
      let step = step_in (machine.Step so_far act chosen.choice) _ (its_state way.before)
      (its_state state) way.gains before.0 before.1 way.step in (
        step.0,
        step.1,
        record {
          before = before.0;
          sums_before = way.sums_before;
          gains = way.gains;
          way = before.2;
          step = step.2;
          adds = way.adds;
        },
      )
