-- What two steps make of the entries.
use Rattle.mdb_follow.proofs.Words.{◌++◌, moves_of}
use Rattle.mdb_follow.proofs.TwoMoves.{two-moves}
use Rattle.mdb_follow.proofs.Led.{with_moves-append}
use Rattle.mdb_follow.proofs.entries.steps.add_steps.Goals as goal

pub returns-then-ne-clause-entries : goal.returns-then-ne-clause-entries
returns-then-ne-clause-entries g c = (
  moves_of c.args.one.now ++ moves_of c.args.other.now,
  two-moves c.args.one.now c.args.other.now,
  rw (with_moves-append, ← c.add_step.ensures.entries) c.add_step-then-ne.ensures.entries,
)
