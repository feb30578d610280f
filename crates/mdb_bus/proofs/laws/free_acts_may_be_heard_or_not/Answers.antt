-- Nothing after a free act shows whether it was heard, so a loss may hear it as wished.
use Rattle.mdb_bus.proofs.Fitting.{fitting}
use Rattle.mdb_bus.proofs.laws.free_acts_may_be_heard_or_not.Goals as goal

pub returns : goal.returns
returns c = fitting
