-- The scope stays.
use Rattle.mdb_explain.proofs.Words.{HasKept, StopsKeeping, subst, sym}
use Rattle.mdb_follow.specs.Follower.{scope_of}
use Rattle.mdb_verdict.specs.Ending.{HasTakenOrStoppedAt}
use Rattle.mdb_explain.proofs.keeping.KeepingTakeRowsUnit.take.Goals as goal

pub returns-clause-taken : goal.returns-clause-taken
returns-clause-taken c before earlier has =
    subst (λ s. HasTakenOrStoppedAt (HasKept s c.keep.new.self) (StopsKeeping s) earlier
    c.args.row c.keep.result) (sym c.keep.ensures.scope)
    (c.keep.ensures.taken (scope_of c.args.self.now.follower) earlier has)
