-- By any facts, so by those known, the act changes nothing of the validator.
use Rattle.mdb_cash.proofs.Words.{Stacked, still_knowing}
use Rattle.mdb_cash.specs.Bill.{conduct}
use Rattle.mdb_cash.specs.BillFacts.{tables}
use Rattle.mdb_cash.proofs.bill.BillPair.concerns.Goals as goal

pub returns-clause-still : goal.returns-clause-still
returns-clause-still c =
    still_knowing (Stacked 0) tables conduct c.args.act.now c.concerns.result
    c.concerns.ensures.still
