-- The rows before one that is no row are reached.
use Rattle.mdb_page.proofs.answer.mdb_page_check.Goals as goal

pub returns-clause-bad_row : goal.returns-clause-bad_row
returns-clause-bad_row c = λ two.
    let bad = c.judge.ensures.bad_row two in (
      c.in-Some.scope,
      c.in-Some.ensures.taken,
      record {
        rows = bad.0;
        reached = rw bad.1.0 at
            (c.followers_stand_for_reached_rows.ensures c.judge.new.judge bad.0 bad.1.1);
        told_row = bad.2;
      },
    )
