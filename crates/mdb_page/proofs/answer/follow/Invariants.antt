-- The lines so far tell rows, and the judge stands for them.
use Rattle.mdb_page.proofs.Words.{Event, HasRead, List, length, ◌≤◌}
use Rattle.mdb_page.proofs.answer.follow.Given as goal

abbrev pub invariant-loop-line : goal.invariant-loop-line
invariant-loop-line g l = record {
  left : length l.rest.now ≤ length l.initial.rest.now;
  read : (rows : List Event) × HasRead l.initial.rest.now rows l.rest.now
      × g.J.Judge.stands_for l.judge l.scope rows;
}

abbrev pub decreases-loop-line : goal.decreases-loop-line
decreases-loop-line g l = length l.rest.now
