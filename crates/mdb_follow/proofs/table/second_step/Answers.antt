-- The step by the other choice of an act, where it heeds what is chosen.
use Rattle.mdb_follow.proofs.Words.{inr}
use Rattle.mdb_follow.proofs.TwoMoves.{other-or-plain, unheeded}
use Rattle.mdb_follow.proofs.table.second_step.Goals as goal

pub returns-then-heeds_choice-clause-sound : goal.returns-then-heeds_choice-clause-sound
returns-then-heeds_choice-clause-sound g c begins acts stands next gains is =
    let move = (c.other_step.ensures.steps begins acts stands next gains).0 is in
    (move.0, move.1, move.3)

pub returns-then-heeds_choice-clause-whole : goal.returns-then-heeds_choice-clause-whole
returns-then-heeds_choice-clause-whole g c begins acts stands next gains move =
    let p = g.P.Pair in
    other-or-plain c.args.act.now p.code_of ((p.machine begins).Step acts c.args.act.now)
    c.args.code c.other_step.result next gains
    (c.other_step.ensures.steps begins acts stands next gains) move

pub returns-else-heeds_choice-clause-whole : goal.returns-else-heeds_choice-clause-whole
returns-else-heeds_choice-clause-whole g c begins acts stands next gains move =
    let p = g.P.Pair in
    inr (unheeded c.args.act.now p.code_of ((p.machine begins).Step acts c.args.act.now) c.args.code
    c.state.result g.met.P.Pair.apart c.state.ensures
    (c.if-heeds_choice.ensures begins acts) next gains move)
