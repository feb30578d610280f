-- Each fact of a reader is known from power-on, so its steps are those by these facts.
use Rattle.mdb_cashless.proofs.PowerOn.{power_on_known, power_on_steps}
use Rattle.mdb_cashless.proofs.laws.from_power_on_all_is_known_of_a_reader.Goals as goal

pub returns-clause-facts : goal.returns-clause-facts
returns-clause-facts c = power_on_known

pub returns-clause-steps : goal.returns-clause-steps
returns-clause-steps c = power_on_steps
