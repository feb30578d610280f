-- By any facts, so by those known, the act leaves the validator's state.
use Rattle.mdb_cash.proofs.Words.{Stacked, rests_knowing}
use Rattle.mdb_cash.specs.Bill.{conduct}
use Rattle.mdb_cash.specs.BillFacts.{tables}
use Rattle.mdb_cash.proofs.bill.BillPair.rests.Goals as goal

pub returns : goal.returns
returns c =
    rests_knowing (Stacked 0) tables conduct c.args.act.now c.args.state c.rests.result
    c.rests.ensures
