-- Amounts without a value that changer and controller tell.
use Rattle.std.specs.Prelude.{ℕ, List}
use Rattle.mdb_bus.specs.declared.act.Act.{Act}
use Rattle.mdb_bus.specs.declared.scope.Beginning.{Beginning}
use Rattle.mdb_cash.specs.ChangerFacts.{tables}
use Rattle.mdb_machine.specs.Unvalued as amounts
use Rattle.mdb_cash.specs.Changer.{conduct}

-- how many amounts without a value acts tell: deposits, coins dispensed by hand, and DISPENSE asks
abbrev pub unvalued : Beginning → List Act → ℕ
unvalued = amounts.unvalued tables conduct
