-- The entries that two steps from the only one lead to.
use Rattle.mdb_follow.proofs.Words.{rules, inl, inr, Some, None, [], ◌∷◌}
use Rattle.mdb_follow.proofs.TwoMoves.{lead-one, two-moves}
use Rattle.mdb_follow.proofs.entries.steps.lead_only.Goals as goal
use Rattle.mdb_follow.proofs.entries.steps.lead_only.Goals.{in_default-via-in-Some-other-2+else-ne, in_default-via-in_default}

pub returns-in-Some-other-clause-led : goal.returns-in-Some-other-clause-led
returns-in-Some-other-clause-led g c entry is =
    rw (c.in-None.is, c.in-Some-other.is) (
      c.in-Some-other.step ∷ [],
      two-moves None (Some c.in-Some-other.step),
      c.move_only.ensures.moved entry is,
    )

pub returns-in-Some-other-2-clause-led : goal.returns-in-Some-other-2-clause-led
returns-in-Some-other-2-clause-led g c entry is =
    rw (c.in-Some.is, c.in-Some-other-2.is) (
      c.in-Some.step ∷ c.in-Some-other-2.second ∷ [],
      two-moves (Some c.in-Some.step) (Some c.in-Some-other-2.second),
      c.branch_only.ensures.moved entry is,
    )

pub returns-in_default-clause-led : goal.returns-in_default-clause-led
returns-in_default-clause-led g c entry is =
    lead-one entry.1 c.args.one.now c.args.other.now _ _ c.in-Some.is
    (elim c.in_default.branch [
      | in_default-via-in-Some-other-2+else-ne w ↦ inr (search rules)
      | in_default-via-in_default w ↦ inl w.in_default.is
    ])
    (c.move_only-in_default.ensures.moved entry is)
