-- The rows are followed one by one.
use Rattle.std.proofs.Common.{arith}
use Rattle.mdb_check.proofs.Following.{fed_all, fed_more, fed_to}
use Rattle.mdb_check.proofs.heeding.Heeding.feed_each.Goals as goal

pub take-requires : goal.take-requires
take-requires c =
    let counted = c.loop-event.invariant.counted in
    omega arith

pub returns-then-not-take-clause-refused : goal.returns-then-not-take-clause-refused
returns-then-not-take-clause-refused c =
    fed_to c.args.rows.now c.loop-event.event-index c.event-item.result c.loop-event-test.true
    c.loop-event.invariant (λ scope readers before on.
    rw c.event-item.is at (c.if-not-take.ensures.refused scope readers before on))

pub loop-event-preserved : goal.loop-event-preserved
loop-event-preserved c =
    fed_more c.args.rows.now c.loop-event.event-index c.event-item.result c.loop-event-test.true
    c.loop-event.invariant c.if-not-take.ensures.counted c.take.ensures.scope c.take.ensures.last
    c.take.ensures.earlier
    (λ scope readers before on.
    rw c.event-item.is at (c.if-not-take.ensures.taken scope readers before on))

pub returns-clause-taken : goal.returns-clause-taken
returns-clause-taken c =
    fed_all c.args.self.now c.loop-event.self c.args.rows.now c.loop-event.event-index
    c.loop-event-test.false c.loop-event.invariant
