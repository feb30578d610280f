-- The sides of an account, each with its word.
use Rattle.std.specs.Prelude.{ℕ, List, codes}
use Rattle.mdb_follow.specs.declared.goal.AccountSide.{AccountSide}
use Rattle.mdb_follow.specs.declared.goal.AccountSide.TheVariants.{Device, Controller, Difference}

-- its word in a report
abbrev pub side_word : AccountSide → List ℕ
side_word Device = codes "device"
side_word Controller = codes "controller"
side_word Difference = codes "difference"
