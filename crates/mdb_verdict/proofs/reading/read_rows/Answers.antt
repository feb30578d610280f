-- The rows of each batch are taken up to the first that is stopped at, to a record that is none, to
-- the limit or to the end of the text.
use Rattle.mdb_verdict.proofs.Words.{arith, fault_of, found_by, refl, sym, ◌++◌, ◌+◌, ◌-◌, ◌∙◌}
use Rattle.mdb_verdict.specs.declared.batch.Next.TheVariants as next
use Rattle.mdb_verdict.proofs.Batches.{fits}
use Rattle.mdb_verdict.proofs.Endings as endings
use Rattle.mdb_verdict.proofs.Verdicts.{is_fault}
use Rattle.mdb_verdict.proofs.reading.read_rows.Goals as goal

pub loop-batch-init : goal.loop-batch-init
loop-batch-init g c =
    let none = g.met.T.TakeRows.counts c.args.taker.now c.args.out.now c.args.out.now _
    c.requires.begun in
    record {
      progress = endings.begins c.requires.begun none;
      over = λ over. over;
      met = λ none. none;
      few = omega (arith, none);
      keeps = refl;
      found = omega (arith);
    }

pub returns-in-Some : goal.returns-in-Some
returns-in-Some g c =
    let progress = c.loop-batch.invariant.progress in
    let below = c.loop-batch-test.true in
    let taken = c.rows_taken.ensures in
    let room = c.rows_taken-in-loop-batch.ensures in
    let few = fits _ _ _ c.refill-next.ensures.fits in
    let at = rw c.in-Some.is at
    (c.take_all.ensures.taken c.args.out.now progress.rows progress.has) in
    record {
      ended = λ all to_come. endings.stopped progress c.refill-next.ensures.read
          c.as_slice.ensures.rows to_come
          (λ earlier has. rw c.in-Some.is at (c.take_all.ensures.taken c.args.out.now earlier has))
          (omega (arith, below, taken, room, few));
      whole = λ over is. absurd (cc);
      few = λ is. absurd (cc);
      taken = λ is. absurd (cc);
      stopped = (progress.rows ++ at.front, at.row, at.stops);
      heard = tt;
      met = λ none. endings.met_stopped (fault_of c.refill-next.new.records) c.in-Some.stop;
      keeps = c.take_all.ensures.keeps ∙ c.loop-batch.invariant.keeps;
      counted = tt;
    }

pub returns-in_err-goes_on : goal.returns-in_err-goes_on
returns-in_err-goes_on g c =
    let after = endings.goes_on c.loop-batch.invariant.progress c.refill-next.ensures.read
    c.as_slice.ensures.rows
    (λ earlier has. rw c.in_default.is at (c.take_all.ensures.taken c.args.out.now earlier has))
    (g.met.T.TakeRows.counts c.take_all.new.self c.args.out.now c.take_all.new.out) in
    let counted = after.1 in
    let below = c.loop-batch-test.true in
    let taken = c.rows_taken.ensures in
    let room = c.rows_taken-in-loop-batch.ensures in
    let all_taken = c.rows_taken-in-loop-batch-2.ensures in
    let rows = c.rows_taken-in-loop-batch-2.result in
    let is = sym c.in_err-goes_on.ensures in
    rw (is_fault c.from_residual.result c.from_residual.ensures.1) (record {
      ended = λ all to_come. rw (rw all_taken at is) at (endings.refused after.0 to_come
          (g.T.TakeRows.stops c.take_all.new.self c.args.out.now c.take_all.new.out)
          c.args.rows_max (c.args.rows_max - c.rows_taken-in-loop-batch.result)
          c.refill-next.new.self c.refill-next.ensures.fits
          (omega (arith, below, taken, room, counted)));
      whole = λ over is. absurd (cc);
      few = λ is. absurd (cc);
      taken = λ is. absurd (cc);
      stopped = tt;
      heard = rw is at (endings.heard_by _ rows _ c.refill-next.ensures.failed);
      met = λ none. rw is at
          (endings.met_by _ rows _ (c.refill-next.ensures.met (c.loop-batch.invariant.met none)));
      keeps = c.take_all.ensures.keeps ∙ c.loop-batch.invariant.keeps;
      counted = rw is at (endings.found_by_next _ rows _
          (found_by c.args.records.now + g.T.TakeRows.count c.take_all.new.self) _
          (omega (arith, c.loop-batch.invariant.found, counted)) c.refill-next.ensures.counted);
    })

pub returns-then-not-branch : goal.returns-then-not-branch
returns-then-not-branch g c =
    let after = endings.goes_on c.loop-batch.invariant.progress c.refill-next.ensures.read
    c.as_slice.ensures.rows
    (λ earlier has. rw c.in_default.is at (c.take_all.ensures.taken c.args.out.now earlier has))
    (g.met.T.TakeRows.counts c.take_all.new.self c.args.out.now c.take_all.new.out) in
    let counted = after.1 in
    let below = c.loop-batch-test.true in
    let taken = c.rows_taken.ensures in
    let room = c.rows_taken-in-loop-batch.ensures in
    let few = fits _ _ _ c.refill-next.ensures.fits in
    let end = endings.is_end _ _ (rw c.if-not-branch.true at c.in_ok-goes_on.ensures) in
    record {
      ended = λ all to_come. endings.whole after.0 to_come (λ rest left. rw end at left)
          (omega (arith, below, taken, room, counted, few));
      whole = λ over is.
          rw end at (c.refill-next.ensures.over (c.loop-batch.invariant.over over));
      few = λ is. omega (arith, below, taken, room, counted, few);
      taken = λ is. (after.0.rows, after.0.has);
      stopped = tt;
      heard = tt;
      met = λ none.
          rw (rw end at (c.refill-next.ensures.met (c.loop-batch.invariant.met none))) tt;
      keeps = c.take_all.ensures.keeps ∙ c.loop-batch.invariant.keeps;
      counted = tt;
    }

pub loop-batch-preserved : goal.loop-batch-preserved
loop-batch-preserved g c =
    let after = endings.goes_on c.loop-batch.invariant.progress c.refill-next.ensures.read
    c.as_slice.ensures.rows
    (λ earlier has. rw c.in_default.is at (c.take_all.ensures.taken c.args.out.now earlier has))
    (g.met.T.TakeRows.counts c.take_all.new.self c.args.out.now c.take_all.new.out) in
    let counted = after.1 in
    let below = c.loop-batch-test.true in
    let taken = c.rows_taken.ensures in
    let room = c.rows_taken-in-loop-batch.ensures in
    let few = fits _ _ _ c.refill-next.ensures.fits in
    let more = endings.is_more _ _ (rw c.if-not-branch.false at c.in_ok-goes_on.ensures) in
    let found = rw more at c.refill-next.ensures.counted in
    record {
      progress = rw more at after.0;
      over = λ over. rw more at (c.refill-next.ensures.over (c.loop-batch.invariant.over over));
      met = λ none. rw more at (c.refill-next.ensures.met (c.loop-batch.invariant.met none));
      few = omega (arith, below, taken, room, counted, few);
      keeps = c.take_all.ensures.keeps ∙ c.loop-batch.invariant.keeps;
      found = omega (arith, c.loop-batch.invariant.found, counted, found);
    }

pub loop-batch-smaller : goal.loop-batch-smaller
loop-batch-smaller g c =
    let after = endings.goes_on c.loop-batch.invariant.progress c.refill-next.ensures.read
    c.as_slice.ensures.rows
    (λ earlier has. rw c.in_default.is at (c.take_all.ensures.taken c.args.out.now earlier has))
    (g.met.T.TakeRows.counts c.take_all.new.self c.args.out.now c.take_all.new.out) in
    let counted = after.1 in
    let below = c.loop-batch-test.true in
    let taken = c.rows_taken.ensures in
    let room = c.rows_taken-in-loop-batch.ensures in
    let more = endings.is_more _ _ (rw c.if-not-branch.false at c.in_ok-goes_on.ensures) in
    let few = rw more at c.refill-next.ensures.fits in
    omega (arith, below, taken, room, counted, few.0, few.1)

pub returns-in_err-expect_end : goal.returns-in_err-expect_end
returns-in_err-expect_end g c =
    let progress = c.loop-batch.invariant.progress in
    rw (is_fault c.from_residual-in_err-expect_end.result
    c.from_residual-in_err-expect_end.ensures.1) (record {
      ended = λ all to_come. endings.refused_at progress to_come
          (g.T.TakeRows.stops c.loop-batch.taker c.args.out.now c.loop-batch.out) c.args.rows_max
          (omega (
            arith,
            c.loop-batch-test.false,
            c.rows_taken.ensures,
            c.loop-batch.invariant.few,
          )) _ c.in_err-expect_end.ensures.ends;
      whole = λ over is. absurd (cc);
      few = λ is. absurd (cc);
      taken = λ is. absurd (cc);
      stopped = tt;
      heard = c.in_err-expect_end.ensures.heard;
      met = λ none. endings.met_at _ _
          (c.in_err-expect_end.ensures.met (c.loop-batch.invariant.met none));
      keeps = c.loop-batch.invariant.keeps;
      counted = endings.found_at _ _ _ _ c.loop-batch.invariant.found
          c.in_err-expect_end.ensures.counted;
    })

pub returns-clause-ended : goal.returns-clause-ended
returns-clause-ended g c all to_come =
    endings.whole c.loop-batch.invariant.progress to_come c.in_ok-expect_end.ensures.ends
    c.loop-batch.invariant.few

pub returns-clause-met : goal.returns-clause-met
returns-clause-met g c = λ none. endings.met_none_at _ _
    (c.in_ok-expect_end.ensures.met (c.loop-batch.invariant.met none))

pub returns-clause-few : goal.returns-clause-few
returns-clause-few g c = λ is. c.loop-batch.invariant.few

pub returns-clause-taken : goal.returns-clause-taken
returns-clause-taken g c = λ is.
    (c.loop-batch.invariant.progress.rows, c.loop-batch.invariant.progress.has)

pub returns-clause-keeps : goal.returns-clause-keeps
returns-clause-keeps g c = c.loop-batch.invariant.keeps
