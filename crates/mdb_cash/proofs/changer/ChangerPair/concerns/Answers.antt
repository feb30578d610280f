-- By any facts, so by those known, the act changes nothing of the changer.
use Rattle.mdb_cash.proofs.Words.{CashBox, still_knowing}
use Rattle.mdb_cash.specs.Changer.{conduct}
use Rattle.mdb_cash.specs.ChangerFacts.{tables}
use Rattle.mdb_cash.proofs.changer.ChangerPair.concerns.Goals as goal

pub returns-clause-still : goal.returns-clause-still
returns-clause-still c =
    still_knowing (CashBox 0) tables conduct c.args.act.now c.concerns.result
    c.concerns.ensures.still
