-- The sides of an account, and the ends of a range (this profile).
use Rattle.std.specs.Prelude.{ℤ, pos, ◌-ℤ◌}
use Rattle.mdb_follow.specs.declared.account.Account.{Account}
use Rattle.mdb_follow.specs.declared.goal.AccountSide.{AccountSide}
use Rattle.mdb_follow.specs.declared.goal.AccountSide.TheVariants as sides
use Rattle.mdb_follow.specs.declared.range.Range.{Range}
use Rattle.mdb_follow.specs.Sums.{AccountSums}

-- what an account has come to on a side
abbrev pub side_value : AccountSide → AccountSums → ℤ
side_value sides.Device sums = pos sums.device
side_value sides.Controller sums = pos sums.controller
side_value sides.Difference sums = pos sums.device -ℤ pos sums.controller

-- the range of an account on a side
abbrev pub side_range : AccountSide → Account → Range
side_range sides.Device account = account.device
side_range sides.Controller account = account.controller
side_range sides.Difference account = account.difference
