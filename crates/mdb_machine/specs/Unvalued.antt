-- Amounts without a value: the device tells them, or the controller asks for them, where nothing
-- has told yet how the device is set up (this profile). Lists of acts are written newest first.
use Rattle.std.specs.Prelude.{ℕ, ◌+◌, Bool, List, [], ◌∷◌, Option, Some, None, if◌then◌else◌, sum_by}
use Rattle.std.specs.Option.{option_map_or}
use Rattle.mdb_bus.specs.declared.act.Act.{Act}
use Rattle.mdb_bus.specs.declared.act.Act.TheVariants as acts
use Rattle.mdb_bus.specs.declared.scope.Beginning.{Beginning}
use Rattle.mdb_machine.specs.Keeper.{Tables, known_of, parts_by}
use Rattle.mdb_machine.specs.KeeperConduct.{Conduct}
use Rattle.mdb_machine.specs.Kept.{kept_of}

-- one, where something is so, and else none
abbrev pub one_if : Bool → ℕ
one_if is = if is then 1 else 0

-- How many amounts an act tells: the kept messages of a reply that tell of money, told again or
-- not, and an ask for money. A repeat is no further reply.
abbrev pub amounts_in : {Own Setup Asked M State : Type 0} → Tables Own Setup Asked M
    → Conduct Own Setup Asked M State → Act → ℕ
amounts_in tables conduct (acts.Ask command) =
    option_map_or (λ own. one_if (conduct.asks_amount own)) (tables.own command) 0
amounts_in tables conduct act =
    sum_by (λ message. one_if (conduct.tells_amount message)) (kept_of (parts_by tables act))

-- how many of them have no value, where this is the last setup table, if there is one
abbrev pub unvalued_by : {Setup : Type 0} → Option Setup → ℕ → ℕ
unvalued_by None amounts = amounts
unvalued_by (Some setup) amounts = 0

-- how many amounts without a value acts tell
abbrev pub unvalued : {Own Setup Asked M State : Type 0} → Tables Own Setup Asked M
    → Conduct Own Setup Asked M State → Beginning → List Act → ℕ
unvalued tables conduct begins [] = 0
unvalued tables conduct begins (act ∷ acts) =
    unvalued_by (known_of tables begins acts).setup (amounts_in tables conduct act)
    + unvalued tables conduct begins acts
