-- What the steps under all choices lead to is taken in.
use Rattle.mdb_run_search.proofs.Words.{Some, refl, PowerOn, by_second, plain_only}
use Rattle.mdb_follow.proofs.TwoMoves.{unheeded}
use Rattle.mdb_run_search.proofs.TakenIn.{takes-both, takes-plain}
use Rattle.mdb_run_search.proofs.explain.paths.take_steps.Goals as goal

pub returns-then-not-heeds_choice-clause-takes : goal.returns-then-not-heeds_choice-clause-takes
returns-then-not-heeds_choice-clause-takes g c profile acts stands =
    takes-plain tt (λ choice can next gains step. unheeded c.args.act.now
    g.P.Pair.code_of ((g.P.Pair.machine (PowerOn profile)).Step acts c.args.act.now)
    c.args.entry.now.0 c.state.result
    g.met.P.Pair.apart c.state.ensures (c.if-not-heeds_choice.ensures (PowerOn profile) acts) next
    gains (choice, can, step))
    (c.in_ok-take_step.ensures.takes profile acts stands)

pub returns-in_ok-take_step-2-clause-takes : goal.returns-in_ok-take_step-2-clause-takes
returns-in_ok-take_step-2-clause-takes g c profile acts stands =
    let second = c.in-Some.ensures in
    takes-both c.in-Some.choice tt (second.stands c.in-Some.choice refl).0
    (by_second (g.P.Pair.machine (PowerOn profile)) (g.met.P.Pair.is_machine (PowerOn profile)) acts
    c.args.act.now (Some c.in-Some.choice) c.in-Some.choice refl second.stands second.only)
    c.take_step.ensures.kept c.take_step-in-Some.ensures.kept
    (c.in_ok-take_step.ensures.takes profile acts stands)
    (c.in_ok-take_step-2.ensures.takes profile acts stands)

pub returns-in_default-clause-takes : goal.returns-in_default-clause-takes
returns-in_default-clause-takes g c profile acts stands =
    takes-plain tt (λ choice can next gains step. rw (plain_only c.args.act.now
    c.other_choice.result c.in_default.is c.other_choice.ensures.only choice can) at step)
    (c.in_ok-take_step.ensures.takes profile acts stands)
