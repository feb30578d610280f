-- What sums and gains count for a goal, so that less is always better. This serves private
-- functions.
use Rattle.std.specs.Prelude.{ℕ, ℤ, pos, neg_ℤ, slice_index}
use Rattle.mdb_machine.specs.declared.gains.Gains.{Gains}
use Rattle.mdb_run_search.specs.declared.explain.best.Weight.{Weight}
use Rattle.mdb_run_search.specs.declared.explain.best.Weight.TheVariants as weights
use Rattle.mdb_follow.specs.declared.goal.Bound.{Bound}
use Rattle.mdb_follow.specs.declared.goal.Bound.TheVariants.{Least, Greatest}
use Rattle.mdb_follow.specs.Ends.{side_value}
use Rattle.mdb_follow.specs.Sums.{AccountSums, Sums}

-- a value as it counts towards an end of a range: towards the greatest negatively
abbrev pub towards : Bound → ℤ → ℤ
towards Least value = value
towards Greatest value = neg_ℤ value

-- what gains add to the account in a slot
abbrev pub gained : ℕ → Gains → AccountSums
gained slot gains = record {
  device = slice_index gains.device slot;
  controller = slice_index gains.controller slot;
}

-- what the sums of a device count
abbrev pub weigh : Weight → Sums → ℤ
weigh weights.Nothing sums = pos 0
weigh (weights.Account slot side bound) sums = towards bound (side_value side (sums slot))

-- and what gains add to that
abbrev pub weight_of : Weight → Gains → ℤ
weight_of weights.Nothing gains = pos 0
weight_of (weights.Account slot side bound) gains =
    towards bound (side_value side (gained slot gains))
