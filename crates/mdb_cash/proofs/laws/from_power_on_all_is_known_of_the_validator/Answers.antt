-- Each fact of the validator is known from power-on, so its steps are those by these facts.
use Rattle.mdb_cash.proofs.Words.{power_on_known, power_on_steps}
use Rattle.mdb_cash.specs.Bill.{conduct}
use Rattle.mdb_cash.specs.BillFacts.{tables}
use Rattle.mdb_cash.proofs.laws.from_power_on_all_is_known_of_the_validator.Goals as goal

pub returns-clause-facts : goal.returns-clause-facts
returns-clause-facts c = power_on_known tables

pub returns-clause-steps : goal.returns-clause-steps
returns-clause-steps c = power_on_steps tables conduct
