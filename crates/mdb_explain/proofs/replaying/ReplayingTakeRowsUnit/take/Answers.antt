-- The scope stays.
use Rattle.mdb_explain.proofs.Words.{HasReplayed, IsStoppedAt, subst, sym}
use Rattle.mdb_run_search.specs.Replays.{scope_of}
use Rattle.mdb_verdict.specs.Ending.{HasTakenOrStoppedAt}
use Rattle.mdb_explain.proofs.replaying.ReplayingTakeRowsUnit.take.Goals as goal

pub returns-clause-taken : goal.returns-clause-taken
returns-clause-taken c before earlier has =
    subst (λ s. HasTakenOrStoppedAt (HasReplayed s c.take_entry.new.self) (IsStoppedAt s) earlier
    c.args.entry c.take_entry.result) (sym c.take_entry.ensures.scope)
    (c.take_entry.ensures.taken (scope_of c.args.self.now.replay) earlier has)

pub returns-clause-keeps : goal.returns-clause-keeps
returns-clause-keeps c = c.take_entry.ensures.scope
