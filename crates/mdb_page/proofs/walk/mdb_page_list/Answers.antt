-- What the page lists is what the walk over its lines listed.
use Rattle.std.proofs.Common.{arith}
use Rattle.mdb_page.proofs.walk.mdb_page_list.Goals as goal

pub returns-clause-acts : goal.returns-clause-acts
returns-clause-acts c other =
    let lines = c.without_mark-rest.result.now in
    let stay = (c.keeping.ensures c.args.acts.now).stay in
    let walked = rw (c.scoped-bus.ensures.scope, stay) at c.walk-answer.ensures.walked in (
      c.in-Some.scope,
      c.in-Some.ensures.taken,
      record {
        lines = lines;
        unmarked = c.without_mark-rest.ensures.rest;
        rest = c.walk-answer.new.rest.now;
        offset = omega (arith, c.walk-answer.ensures.left, c.without_mark-rest.ensures.shorter);
        listed = walked.shown;
        reading = walked.reading;
        count = c.count-told.ensures c.args.first c.args.acts.now c.walk-answer.new.acts
            walked.shown walked.listed;
        entries = walked.listed.entries;
      },
    )
