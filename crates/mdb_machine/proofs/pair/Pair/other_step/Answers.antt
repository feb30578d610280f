-- An act has at most one other choice that counts, so the step by it is the only other move.
use Rattle.mdb_machine.proofs.Ways.{by_other, by_second}
use Rattle.mdb_machine.proofs.pair.Pair.other_step.Goals as goal

pub returns-in-Some-clause-steps : goal.returns-in-Some-clause-steps
returns-in-Some-clause-steps g c begins acts stands =
    let p = g.Self.Pair in
    let second = c.other_choice.ensures in
    by_other p.device c.args.act.now p.code_of ((p.machine begins).Step acts c.args.act.now)
    c.args.code c.in-Some.choice c.step.result (second.stands c.in-Some.choice c.in-Some.is)
    (by_second (p.machine begins) (g.met.Self.Pair.is_machine begins) acts c.args.act.now
    c.other_choice.result c.in-Some.choice c.in-Some.is second.stands second.only)
    (c.step.ensures.steps begins acts stands)
