-- Before the first row, the sides stand for no act.
use Rattle.mdb_follow.proofs.Words.{[]}
use Rattle.mdb_follow.proofs.follower.Follower.scoped.Goals as goal

pub invariant_of-result-clause-standing : goal.invariant_of-result-clause-standing
invariant_of-result-clause-standing c = ∣ record {
  begins = c.args.scope.now.begins;
  acts = [];
  stand = c.start.ensures.stands;
} ∣₁
