-- A row is taken: one that ends no act, or one that ends one.
use Rattle.mdb_page.proofs.Turns.{row_taken}
use Rattle.mdb_page.proofs.walk.Lists.take.Goals as goal

pub returns-else-ended-clause-taken : goal.returns-else-ended-clause-taken
returns-else-ended-clause-taken c stay before pieces longer has turn =
    row_taken has (rw c.if-ended.false at turn) c.add.ensures

pub returns-then-ended-clause-taken : goal.returns-then-ended-clause-taken
returns-then-ended-clause-taken c stay before pieces longer has turn =
    c.end.ensures.taken stay before pieces longer has (rw c.if-ended.true at turn)
