-- A step by codes is that of their states. An act of another device leaves the code as it is.
use Rattle.mdb_machine.proofs.Words.{IsTrue, ◌↔◌, refl, subst, CanStandFor, no_gains}
use Rattle.mdb_machine.proofs.Ways.{chosen_some, not_its_own}
use Rattle.mdb_machine.proofs.pair.Pair.step.Goals as goal

pub returns-in-None-clause-elsewhere : goal.returns-in-None-clause-elsewhere
returns-in-None-clause-elsewhere g c begins acts stands other =
    let before = c.state-before.result in
    absurd (c.in-None.ensures.step begins acts stands before no_gains
    (((g.met.Self.Pair.is_machine begins).elsewhere acts c.args.act.now c.args.choice before before
    no_gains (not_its_own g.Self.Pair.device c.args.act.now other)).1 (refl, refl)))

pub returns-in-Some-clause-elsewhere : goal.returns-in-Some-clause-elsewhere
returns-in-Some-clause-elsewhere g c begins acts stands other =
    let before = c.state-before.result in
    let same = (c.in-Some.ensures.step begins acts stands).1 before no_gains
    (((g.met.Self.Pair.is_machine begins).elsewhere acts c.args.act.now c.args.choice before before
    no_gains (not_its_own g.Self.Pair.device c.args.act.now other)).1 (refl, refl)) in
    let state = same.0 in
    let gains = same.1 in
    let code = c.code.ensures in
    let start = c.state-before.ensures in
    cc (state, gains, code, start)

pub returns-in-Some-clause-steps : goal.returns-in-Some-clause-steps
returns-in-Some-clause-steps g c begins acts stands =
    let p = g.Self.Pair in
    chosen_some p.device c.args.act.now p.code_of ((p.machine begins).Step acts c.args.act.now)
    c.args.choice
    c.args.code c.code.result c.state-before.result _ _ c.can_stand_for.result
    g.met.Self.Pair.apart c.state-before.ensures c.code.ensures
    (subst (λ d. IsTrue c.can_stand_for.result ↔ CanStandFor d c.args.act.now c.args.choice)
    c.device.ensures c.can_stand_for.ensures)
    c.if-not-can_stand_for.false (c.in-Some.ensures.step begins acts stands)
