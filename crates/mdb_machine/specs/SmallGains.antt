-- Gains that are small enough to be added up.
use Rattle.std.specs.Prelude.{ℕ, ◌<◌, ◌^◌, List}
use Rattle.std.specs.List.{AllByRecursion}
use Rattle.mdb_machine.specs.declared.gains.Gains.{Gains}

-- few enough that the sums over the 100,000,000 rows of a recording fit in 63 bits
abbrev pub AreSmall : List ℕ → Type 0
AreSmall amounts = AllByRecursion (λ amount. amount < 2 ^ 32) amounts

pub record IsSmall (gains : Gains) : Type 0 where
  pub device : AreSmall gains.device
  pub controller : AreSmall gains.controller
