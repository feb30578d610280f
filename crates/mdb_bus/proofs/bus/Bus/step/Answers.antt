-- A row has its effect, and the bus goes on, or the row breaks a rule.
use Rattle.mdb_bus.proofs.Words.{ended_act}
use Rattle.mdb_bus.proofs.Feed.{on_ok, read_breaks, read_goes_on, sound_at, stands_by, stands_on}
use Rattle.mdb_bus.specs.shared.Step as step
use Rattle.mdb_bus.proofs.Verdicts.{covers_same}
use Rattle.mdb_bus.proofs.bus.Bus.step.Goals as goal

pub returns-in-Err-clause-breaks : goal.returns-in-Err-clause-breaks
returns-in-Err-clause-breaks c pieces stands same =
    (c.in-Err.ensures.effect c.args.self.now.levels (sound_at c.args.self.now pieces stands)).effect
    same

pub returns-in-Reply-clause-goes_on : goal.returns-in-Reply-clause-goes_on
returns-in-Reply-clause-goes_on c pieces kept haste stands covers keeps hastens =
    let by = c.in-Ok.ensures.effect c.args.self.now.levels
    (sound_at c.args.self.now pieces stands) in
    read_goes_on c.args.self.now c.take_reply.new.self kept haste pieces c.args.event.now stands
    keeps hastens c.take_reply.new.act c.take_reply.result (rw c.in-Reply.is at (by.effect covers))
    c.take_reply.ensures.taken

pub returns-in-Reply-clause-timely : goal.returns-in-Reply-clause-timely
returns-in-Reply-clause-timely c pieces stands =
    on_ok c.take_reply.result (c.in-Ok.ensures.effect c.args.self.now.levels
    (sound_at c.args.self.now pieces stands)).timely

pub returns-in-Reply-clause-breaks : goal.returns-in-Reply-clause-breaks
returns-in-Reply-clause-breaks c pieces stands same =
    let by = c.in-Ok.ensures.effect c.args.self.now.levels
    (sound_at c.args.self.now pieces stands) in
    read_breaks c.args.self.now c.args.event.now c.take_reply.result
    (rw c.in-Reply.is at (by.effect (covers_same _ _ same))) c.take_reply.ensures.rule

pub returns-in-Foreign-clause-goes_on : goal.returns-in-Foreign-clause-goes_on
returns-in-Foreign-clause-goes_on c pieces kept haste stands covers keeps hastens =
    let by = c.in-Ok.ensures.effect c.args.self.now.levels
    (sound_at c.args.self.now pieces stands) in
    stands_by c.args.self.now c.take_foreign.new.self kept haste pieces c.args.event.now stands
    keeps hastens step.Foreign (ended_act c.take_foreign.result c.take_foreign.new.act)
    (rw c.in-Foreign.is at (by.effect covers)) (λ at. c.take_foreign.ensures.gone)

pub returns-in-Foreign-clause-timely : goal.returns-in-Foreign-clause-timely
returns-in-Foreign-clause-timely c pieces stands =
    (c.in-Ok.ensures.effect c.args.self.now.levels (sound_at c.args.self.now pieces stands)).timely

pub returns-in_default-clause-goes_on : goal.returns-in_default-clause-goes_on
returns-in_default-clause-goes_on c pieces kept haste stands covers keeps hastens =
    let by = c.in-Ok.ensures.effect c.args.self.now.levels
    (sound_at c.args.self.now pieces stands) in
    stands_on c.args.self.now c.go.new.self kept haste pieces c.args.event.now stands keeps hastens
    _ (ended_act c.go.result c.go.new.act) c.in_default.not-Reply (by.effect covers)
    c.go.ensures.gone

pub returns-in_default-clause-timely : goal.returns-in_default-clause-timely
returns-in_default-clause-timely c pieces stands =
    (c.in-Ok.ensures.effect c.args.self.now.levels (sound_at c.args.self.now pieces stands)).timely
