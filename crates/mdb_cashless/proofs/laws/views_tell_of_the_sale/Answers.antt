-- The view first tells of no sale, or of one that may be older. Each step keeps this true.
use Rattle.mdb_cashless.proofs.Sales.{steps_may_tell}
use Rattle.mdb_cashless.proofs.laws.views_tell_of_the_sale.Goals as goal

pub returns-clause-steps : goal.returns-clause-steps
returns-clause-steps c = steps_may_tell
