-- The value of a goal in a run, and the end of a range that it asks for (this profile).
use Rattle.std.specs.Prelude.{ℤ, ◌≤ℤ◌}
use Rattle.mdb_follow.specs.declared.goal.Bound.{Bound}
use Rattle.mdb_follow.specs.declared.goal.Bound.TheVariants.{Least, Greatest}
use Rattle.mdb_follow.specs.declared.goal.Goal.{Goal}
use Rattle.mdb_follow.specs.declared.range.Range.{Range}
use Rattle.mdb_follow.specs.AccountNames.{sums_of}
use Rattle.mdb_follow.specs.Runs.{AllSums}
use Rattle.mdb_follow.specs.Ends.{side_value}

-- the value of a goal in a run with these sums
abbrev pub goal_value : Goal → AllSums → ℤ
goal_value goal sums = side_value goal.side (sums_of goal.account sums)

-- an end of a range
abbrev pub end_of : Bound → Range → ℤ
end_of Least range = range.least
end_of Greatest range = range.greatest

-- one value is at least as far towards an end as another
abbrev pub IsAsFar : Bound → ℤ → ℤ → Type 0
IsAsFar Least one other = one ≤ℤ other
IsAsFar Greatest one other = other ≤ℤ one
