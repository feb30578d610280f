-- Amounts without a value that a reader and the controller tell (this profile). Acts stand newest
-- first.
use Rattle.std.specs.Prelude.{ℕ, ◌+◌, Bool, false, ◌&&◌, ◌||◌, List, [], ◌∷◌, Option, Some, None, sum_by, true}
use Rattle.std.specs.Option.{is_none}
use Rattle.mdb_msgs.specs.declared.command.ReaderCommand.{ReaderCommand}
use Rattle.mdb_msgs.specs.declared.command.ReaderUnit.{ReaderUnit}
use Rattle.mdb_bus.specs.declared.act.Act.{Act}
use Rattle.mdb_bus.specs.declared.scope.Beginning.{Beginning}
use Rattle.mdb_machine.specs.Choices.{is_approval}
use Rattle.mdb_machine.specs.Past.{or_else}
use Rattle.mdb_machine.specs.Unvalued.{one_if}
use Rattle.mdb_cashless.specs.ReaderFacts.{KnownFacts, config_by, known_of, messages_by}
use Rattle.mdb_cashless.specs.Transactions.{transaction_of}
use Rattle.mdb_cashless.specs.Units.{own}
use Rattle.mdb_bus.specs.declared.act.Act.TheVariants as acts
use Rattle.mdb_machine.specs.Unvalued as unvalued_amounts
use Rattle.mdb_cashless.specs.declared.reader.transaction.Transaction.{Transaction}
use Rattle.mdb_cashless.specs.declared.reader.transaction.Transaction.TheVariants.{Success}

-- whether the value of a sale isn't known: there is no config message or no message 05 yet
abbrev pub is_unpriced : KnownFacts → Bool
is_unpriced known = is_none known.config || is_none known.amount

-- whether a transaction command ends an approved sale: VEND SUCCESS
abbrev pub ends_sale : Transaction → Bool
ends_sale (Success item) = true
ends_sale transaction = false

-- whether the controller tells of an amount by a command to the reader, which ends a sale
abbrev pub asks_sale : Option ReaderCommand → Bool
asks_sale None = false
asks_sale (Some command) =
    elim (transaction_of command) [ Some transaction ↦ ends_sale transaction | None ↦ false ]

-- How many amounts without a value an act tells, where this is known before it: a command that is
-- asked and ends a sale, and messages 05 of a reply, told again or not; its own config message
-- counts first. A repeat is no further reply.
abbrev pub unvalued_by : ReaderUnit → KnownFacts → Act → ℕ
unvalued_by unit known (acts.Ask command) =
    one_if (asks_sale (own unit command) && is_unpriced known)
unvalued_by unit known act =
    unvalued_amounts.unvalued_by (or_else (config_by unit act) known.config)
    (sum_by (λ message. one_if (is_approval message)) (messages_by unit act))

-- how many amounts without a value acts tell
abbrev pub unvalued : ReaderUnit → Beginning → List Act → ℕ
unvalued unit begins [] = 0
unvalued unit begins (act ∷ acts) =
    unvalued_by unit (known_of begins unit acts) act + unvalued unit begins acts
