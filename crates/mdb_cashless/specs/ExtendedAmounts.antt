-- Amounts without a value by the extended profile (this profile). Acts stand newest first.
use Rattle.std.specs.Prelude.{ℕ, ◌+◌, Bool, ◌&&◌, ◌||◌, List, [], ◌∷◌, sum_by}
use Rattle.std.specs.Option.{is_none}
use Rattle.mdb_msgs.specs.declared.command.ReaderUnit.{ReaderUnit}
use Rattle.mdb_bus.specs.declared.act.Act.{Act}
use Rattle.mdb_bus.specs.declared.scope.Beginning.{Beginning}
use Rattle.mdb_machine.specs.Choices.{is_approval}
use Rattle.mdb_machine.specs.Past.{or_else}
use Rattle.mdb_machine.specs.Unvalued.{one_if}
use Rattle.mdb_cashless.specs.ExtendedFacts.{Facts, facts_of}
use Rattle.mdb_cashless.specs.ReaderAmounts.{asks_sale}
use Rattle.mdb_cashless.specs.ReaderFacts.{config_by, messages_by}
use Rattle.mdb_cashless.specs.Units.{own}
use Rattle.mdb_bus.specs.declared.act.Act.TheVariants as acts
use Rattle.mdb_machine.specs.Unvalued as unvalued_amounts

-- whether the value of a sale isn't known: there is no config message or no message 05 yet, or it
-- may have been requested before the recording
abbrev pub is_unpriced : Facts → Bool
is_unpriced facts = is_none facts.config || is_none facts.amount || facts.earlier

-- How many amounts without a value an act tells, where this is known before it: VEND SUCCESS that
-- is asked, and messages 05 of a reply, told again or not; its own config message counts first. A
-- repeat is no further reply.
abbrev pub unvalued_by : ReaderUnit → Facts → Act → ℕ
unvalued_by unit facts (acts.Ask command) =
    one_if (asks_sale (own unit command) && is_unpriced facts)
unvalued_by unit facts act =
    unvalued_amounts.unvalued_by (or_else (config_by unit act) facts.config)
    (sum_by (λ message. one_if (is_approval message)) (messages_by unit act))

-- how many amounts without a value acts tell
abbrev pub unvalued : ReaderUnit → Beginning → List Act → ℕ
unvalued unit begins [] = 0
unvalued unit begins (act ∷ acts) =
    unvalued_by unit (facts_of begins unit acts) act + unvalued unit begins acts
