-- A step is that of the machine of the profile, or from a state of the other one.
use Rattle.mdb_cashless.proofs.Words.{None, Some, refl}
use Rattle.mdb_cashless.proofs.ByProfile.{IsStray, base_step, extended_step, stray_step}
use Rattle.mdb_cashless.proofs.by_profile.ReaderByProfilePair.step_from.Goals as goal
use Rattle.mdb_cashless.proofs.by_profile.ReaderByProfilePair.step_from.Goals.{in_default-via-in-Base+in_default, in_default-via-in-Extended+in_default}

pub returns-in_err-after-in-Base-Base-clause-step :
    goal.returns-in_err-after-in-Base-Base-clause-step
returns-in_err-after-in-Base-Base-clause-step g c =
    rw (c.from_residual.ensures, c.in-Base-Base.is-0, c.in-Base-Base.is-1)
    (λ begins so_far stands. base_step _ begins so_far _ _ _ None stands
    (c.in_err-after-in-Base-Base.ensures.step begins so_far))

pub returns-in_ok-after-in-Base-Base-clause-step : goal.returns-in_ok-after-in-Base-Base-clause-step
returns-in_ok-after-in-Base-Base-clause-step g c =
    rw (c.in-Base-Base.is-0, c.in-Base-Base.is-1) (λ begins so_far stands.
    base_step _ begins so_far _ _ _ (Some _) stands
    (c.in_ok-after-in-Base-Base.ensures.step begins so_far))

pub returns-in_err-after-in-Extended-Extended-clause-step :
    goal.returns-in_err-after-in-Extended-Extended-clause-step
returns-in_err-after-in-Extended-Extended-clause-step g c =
    rw (
      c.from_residual-in_err-after-in-Extended-Extended.ensures,
      c.in-Extended-Extended.is-0,
      c.in-Extended-Extended.is-1,
    )
    (λ begins so_far stands. extended_step _ begins so_far _ _ _ None stands
    (c.in_err-after-in-Extended-Extended.ensures.step begins so_far))

pub returns-in_ok-after-in-Extended-Extended-clause-step :
    goal.returns-in_ok-after-in-Extended-Extended-clause-step
returns-in_ok-after-in-Extended-Extended-clause-step g c =
    rw (c.in-Extended-Extended.is-0, c.in-Extended-Extended.is-1) (λ begins so_far stands.
    extended_step _ begins so_far _ _ _ (Some _) stands
    (c.in_ok-after-in-Extended-Extended.ensures.step begins so_far))

pub returns-in_default-clause-step : goal.returns-in_default-clause-step
returns-in_default-clause-step g c =
    let stray : IsStray c.args.known.now c.args.before = elim c.in_default.branch [
      | in_default-via-in-Base+in_default w ↦ rw (w.in_default.is-0, w.in_default.is-1) refl
      | in_default-via-in-Extended+in_default w ↦ rw (w.in_default.is-0, w.in_default.is-1) refl
    ] in
    rw (c.strayed.ensures, c.none.ensures) (λ begins so_far stands.
    let step = stray_step _ begins so_far _ _ c.args.known.now c.args.before stray stands in
    ((step _ _).1 (refl, refl), λ after gains. (step after gains).0))
