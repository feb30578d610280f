-- The rows so far were taken, and the next one is taken or stopped at.
use Rattle.mdb_verdict.proofs.Words.{arith, length-append, length-take-le, refl, take, take_all, ◌++◌, ◌∙◌}
use Rattle.mdb_verdict.proofs.Taking.{fed_more, fed_to, none_fed}
use Rattle.mdb_verdict.proofs.reading.TakeRows.take_all.Goals as goal

pub loop-row-init : goal.loop-row-init
loop-row-init g c = record { fed = none_fed _ c.args.rows.now; keeps = refl }

pub take-requires-clause-begun : goal.take-requires-clause-begun
take-requires-clause-begun g c =
    let begun = c.requires.begun in (
      begun.0,
      begun.1 ++ take c.loop-row.row-index c.args.rows.now,
      c.loop-row.invariant.fed.on begun.0 begun.1 begun.2,
    )

pub take-requires-clause-room : goal.take-requires-clause-room
take-requires-clause-room g c =
    let begun = c.requires.begun in
    let first = g.met.Self.TakeRows.counts c.args.self.now begun.0 c.args.out.now begun.1 begun.2 in
    let now = g.met.Self.TakeRows.counts c.loop-row.self begun.0 c.loop-row.out _
    (c.loop-row.invariant.fed.on begun.0 begun.1 begun.2) in
    omega (
      arith,
      first,
      now,
      c.requires.room,
      c.loop-row-test.true,
      length-append begun.1 (take c.loop-row.row-index c.args.rows.now),
      length-take-le c.loop-row.row-index c.args.rows.now,
    )

pub returns-in-Some : goal.returns-in-Some
returns-in-Some g c = record {
  taken = λ before. fed_to c.args.rows.now c.loop-row.row-index c.row-item.result
      c.loop-row-test.true c.row-item.is c.loop-row.invariant.fed before _
      (λ earlier has. rw c.in-Some.is at (c.take.ensures.taken before earlier has));
  keeps = c.take.ensures.keeps ∙ c.loop-row.invariant.keeps;
}

pub loop-row-preserved : goal.loop-row-preserved
loop-row-preserved g c = record {
  fed = fed_more c.args.rows.now c.loop-row.row-index c.row-item.result c.loop-row-test.true
      c.row-item.is c.loop-row.invariant.fed
      (λ before earlier has. rw c.in_default.is at (c.take.ensures.taken before earlier has));
  keeps = c.take.ensures.keeps ∙ c.loop-row.invariant.keeps;
}

pub returns : goal.returns
returns g c = record {
  taken = λ before earlier has.
      rw (take_all c.loop-row.row-index c.args.rows.now c.loop-row-test.false) at
      (c.loop-row.invariant.fed.on before earlier has);
  keeps = c.loop-row.invariant.keeps;
}
