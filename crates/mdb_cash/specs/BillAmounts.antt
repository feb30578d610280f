-- Amounts without a value that validator and controller tell.
use Rattle.std.specs.Prelude.{ℕ, List}
use Rattle.mdb_bus.specs.declared.act.Act.{Act}
use Rattle.mdb_bus.specs.declared.scope.Beginning.{Beginning}
use Rattle.mdb_cash.specs.BillFacts.{tables}
use Rattle.mdb_machine.specs.Unvalued as amounts
use Rattle.mdb_cash.specs.Bill.{conduct}

-- how many amounts without a value acts tell: bills that were stacked, or went to the recycler
abbrev pub unvalued : Beginning → List Act → ℕ
unvalued = amounts.unvalued tables conduct
