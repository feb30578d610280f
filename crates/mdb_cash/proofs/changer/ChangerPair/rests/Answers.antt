-- By any facts, so by those known, the act leaves the changer's state.
use Rattle.mdb_cash.proofs.Words.{CashBox, rests_knowing}
use Rattle.mdb_cash.specs.Changer.{conduct}
use Rattle.mdb_cash.specs.ChangerFacts.{tables}
use Rattle.mdb_cash.proofs.changer.ChangerPair.rests.Goals as goal

pub returns : goal.returns
returns c =
    rests_knowing (CashBox 0) tables conduct c.args.act.now c.args.state c.rests.result
    c.rests.ensures
