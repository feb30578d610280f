-- A batch ends at a fault of reading, at the end of the text, at a record that is no row, at a row
-- that is taken alone, and where it is full.
use Rattle.mdb_verdict.proofs.Words.{ap, arith, current_fields, length, sym, ◌∙◌}
use Rattle.std.proofs.lemmas.Bool.{false≢true}
use Rattle.mdb_verdict.proofs.Batches as batches
use Rattle.mdb_verdict.proofs.Rows.{one_longer}
use Rattle.mdb_verdict.proofs.batch.Batch.refill.Goals as goal

pub loop-init : goal.loop-init
loop-init g c = record {
  taken = λ all to_come. batches.begins c.clear.ensures to_come;
  over = λ over. over;
  met = λ none. none;
  counted = ap length c.clear.ensures;
  found = omega (arith);
}

pub returns-in-Err : goal.returns-in-Err
returns-in-Err g c = record {
  read = λ all to_come. batches.has_read (c.loop.invariant.taken all to_come) tt;
  over = λ over. tt;
  met = λ none. c.in-Err.ensures.failed;
  fits = omega (arith, c.loop.invariant.counted);
  failed = λ fault same. cc c.in-Err.ensures.failed;
  counted = omega (arith, c.loop.invariant.found, c.in-Err.ensures.counted);
}

pub returns-then-not-found : goal.returns-then-not-found
returns-then-not-found g c = record {
  read = λ all to_come.
      let taken = c.loop.invariant.taken all to_come in
      batches.has_read taken
      (rw c.if-not-found.true at (c.in-Ok.ensures.next taken.rest taken.after));
  over = λ over. false≢true
      (sym c.if-not-found.true ∙ (c.in-Ok.ensures.endless (c.loop.invariant.over over)).0);
  met = λ none. c.in-Ok.ensures.fine;
  fits = omega (arith, c.loop.invariant.counted);
  failed = λ fault same. absurd (cc);
  counted =
      let none = batches.found_none c.in-Ok.found _ _ c.if-not-found.true c.in-Ok.ensures.counted in
      omega (arith, c.loop.invariant.found, none);
}

pub returns-in-Err-of : goal.returns-in-Err-of
returns-in-Err-of g c = record {
  read = λ all to_come.
      let taken = c.loop.invariant.taken all to_come in
      let after =
      rw c.if-not-found.false at (c.in-Ok.ensures.next taken.rest taken.after) in
      batches.has_read taken (
        current_fields c.advance.new.self,
        after.0,
        after.1,
        rw c.row.ensures at c.in-Err-of.ensures.refused,
      );
  over = λ over. tt;
  met = λ none. c.in-Ok.ensures.fine;
  fits = omega (arith, c.loop.invariant.counted);
  failed = λ fault same. absurd (cc);
  counted =
      let one = batches.found_one c.in-Ok.found _ _ c.in-Ok.ensures.counted in
      omega (arith, c.loop.invariant.found, one);
}

pub returns-then-is_alone : goal.returns-then-is_alone
returns-then-is_alone g c =
    let longer = one_longer c.loop.self c.push.new.self c.in-Ok-of.row c.push.ensures in
    record {
      read = λ all to_come. batches.goes_on c.in-Ok-of.row (c.loop.invariant.taken all to_come)
          c.if-not-found.false c.in-Ok.ensures.next
          (rw c.row.ensures at c.in-Ok-of.ensures.row) c.push.ensures;
      over = λ over. (c.in-Ok.ensures.endless (c.loop.invariant.over over)).1;
      met = λ none. c.in-Ok.ensures.fine;
      fits = (omega (arith, longer), omega (arith, longer, c.loop.invariant.counted));
      failed = λ fault same. absurd (cc);
      counted =
          let one = batches.found_one c.in-Ok.found _ _ c.in-Ok.ensures.counted in
          omega (arith, longer, one, c.loop.invariant.found);
    }

pub loop-preserved : goal.loop-preserved
loop-preserved g c =
    let longer = one_longer c.loop.self c.push.new.self c.in-Ok-of.row c.push.ensures in
    record {
      taken = λ all to_come. batches.goes_on c.in-Ok-of.row (c.loop.invariant.taken all to_come)
          c.if-not-found.false c.in-Ok.ensures.next
          (rw c.row.ensures at c.in-Ok-of.ensures.row) c.push.ensures;
      over = λ over. (c.in-Ok.ensures.endless (c.loop.invariant.over over)).1;
      met = λ none. c.in-Ok.ensures.fine;
      counted = omega (arith, longer, c.loop.invariant.counted);
      found =
          let one = batches.found_one c.in-Ok.found _ _ c.in-Ok.ensures.counted in
          omega (arith, longer, one, c.loop.invariant.found);
    }

pub returns : goal.returns
returns g c = record {
  read = c.loop.invariant.taken;
  over = c.loop.invariant.over;
  met = c.loop.invariant.met;
  fits = (omega (arith, c.loop.invariant.counted), omega (arith, c.loop.invariant.counted));
  failed = λ fault same. absurd (cc);
  counted = c.loop.invariant.found;
}
