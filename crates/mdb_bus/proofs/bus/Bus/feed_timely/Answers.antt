-- A row in its time goes on, and leaves no haste.
use Rattle.std.proofs.lemmas.Bool.{or_parts}
use Rattle.mdb_bus.proofs.Words.{refl, ◌∙◌}
use Rattle.mdb_bus.proofs.Feed.{no_haste, sends_none}
use Rattle.mdb_bus.proofs.bus.Bus.feed_timely.Goals as goal

pub returns-in-Ok-clause-goes_on : goal.returns-in-Ok-clause-goes_on
returns-in-Ok-clause-goes_on c pieces stands =
    let (none, nothing) = or_parts c.args.self.now.haste c.args.self.now.awaited c.if-self.false in
    c.in-Ok.ensures.goes_on pieces c.step.new.self.awaited c.step.new.self.haste stands tt refl
    (λ next leads. c.step.ensures.haste ∙ no_haste c.args.self.now c.args.event.now next none
    nothing (c.in-Ok.ensures.timely pieces stands) leads)

pub returns-in-Ok-clause-timely : goal.returns-in-Ok-clause-timely
returns-in-Ok-clause-timely c pieces stands =
    sends_none c.args.self.now pieces stands c.args.event.now (c.in-Ok.ensures.timely pieces stands)
