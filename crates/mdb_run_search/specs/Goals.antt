-- Explanations: the fewest marks of a run that comes to an end of a range (this profile).
use Rattle.std.specs.Prelude.{◌≡◌, ℕ, ◌≤◌, List, length}
use Rattle.mdb_words.specs.declared.event.Event.{Event}
use Rattle.mdb_bus.specs.declared.scope.Scope.{Scope}
use Rattle.mdb_follow.specs.declared.goal.Goal.{Goal}
use Rattle.mdb_follow.specs.GoalEnds.{IsAsFar, goal_value}
use Rattle.mdb_follow.specs.Runs.{AllSums, Run}
use Rattle.mdb_run_search.specs.declared.mark.Mark.{Mark}
use Rattle.mdb_run_search.specs.Marks.{MarkedRun}

-- Marks explain a goal: they are those of a run that comes to this end of the range, so that no run
-- goes further, and no run that comes there has fewer.
pub record Explains (scope : Scope) (events : List Event) (goal : Goal)
    (marks : List (ℕ × Mark)) : Type 0 where
  pub sums : AllSums
  pub marked : MarkedRun scope events marks sums
  pub farthest : (other : AllSums) → Run scope events other
      → IsAsFar goal.bound (goal_value goal sums) (goal_value goal other)
  pub fewest : (others : List (ℕ × Mark)) (other : AllSums) → MarkedRun scope events others other
      → goal_value goal other ≡ goal_value goal sums → length marks ≤ length others
