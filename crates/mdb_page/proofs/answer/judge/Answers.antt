-- What is answered, by how the reading ended.
use Rattle.std.proofs.Common.{◌≢◌, ◌+◌, ap, ◌∙◌, arith, length, refl}
use Rattle.mdb_page.specs.declared.answer.End.TheVariants as end
use Rattle.mdb_page.proofs.answer.judge.Goals as goal

pub report_now-requires : goal.report_now-requires
report_now-requires g c =
    let read = c.follow-end.ensures.text c.in-Text.is in (c.args.scope.now, read.0, read.2)

pub returns-in-Text-clause-yes : goal.returns-in-Text-clause-yes
returns-in-Text-clause-yes g c = λ zero.
    let read = c.follow-end.ensures.text c.in-Text.is in
    let other : c.write_as.result ≢ 6 = λ six. omega arith in
    record {
      lines = c.without_mark-rest.result.now;
      unmarked = c.without_mark-rest.ensures.rest;
      rows = read.0;
      read = read.1;
      report = c.report_now.result;
      is = c.report_now.ensures c.args.scope.now read.0 read.2;
      says = (c.write_as.ensures other).1;
      row = c.taken-told.ensures.counted c.args.scope.now read.0 read.2;
      offset = omega (
        arith,
        ap length (c.follow-end.ensures.whole c.in-Text.is),
        c.follow-end.ensures.left,
        c.without_mark-rest.ensures.shorter,
      );
    }

pub returns-in-Offence-clause-no : goal.returns-in-Offence-clause-no
returns-in-Offence-clause-no g c = λ one.
    let found = c.follow-end.ensures.offence c.in-Offence.offence c.in-Offence.is in
    let other : c.write_as-in-Offence.result ≢ 6 = λ six. omega arith in
    record {
      lines = c.without_mark-rest.result.now;
      unmarked = c.without_mark-rest.ensures.rest;
      rows = found.0;
      rest = c.follow-end.new.rest.now;
      read = found.2;
      event = found.1;
      next = found.3;
      offence = c.in-Offence.offence;
      is = found.4;
      says = (c.write_as-in-Offence.ensures other).1;
      row = refl;
      offset = omega (arith, c.follow-end.ensures.left, c.without_mark-rest.ensures.shorter);
    }

pub returns-in-Line-clause-bad_row : goal.returns-in-Line-clause-bad_row
returns-in-Line-clause-bad_row g c = λ two.
    let told = c.line_answer.ensures.bad_row two in
    let read = c.follow-end.ensures.line told.0 (c.in-Line.is ∙ ap end.Line told.1) in (
      read.0,
      read.2,
      record {
        lines = c.without_mark-rest.result.now;
        unmarked = c.without_mark-rest.ensures.rest;
        rest = c.follow-end.new.rest.now;
        read = read.1;
        why = told.0;
        is = read.3;
        fault = told.2;
        row = c.line_answer.ensures.row
            ∙ ap (λ n. n + 1) (c.taken.ensures.counted c.args.scope.now read.0 read.2);
        offset =
            omega (
              arith,
              c.line_answer.ensures.offset,
              c.follow-end.ensures.left,
              c.without_mark-rest.ensures.shorter,
            );
      },
    )
