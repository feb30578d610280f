-- The lines so far are surveyed, by what each line is.
use Rattle.mdb_page.proofs.Words.{arith, le_refl, length, refl, ◌∙◌}
use Rattle.mdb_page.proofs.Surveys.{goes_on_blank, goes_on_fault, goes_on_row, starts, stops_at_line}
use Rattle.mdb_page.proofs.Walks.{blank_line_of, has_bytes, line_of}
use Rattle.mdb_page.proofs.survey.survey_lines.Goals as goal

pub loop-line-init : goal.loop-line-init
loop-line-init c = record {
  left = le_refl (length c.args.rest.now.now);
  size = refl;
  few = omega (arith, c.requires.empty);
  room = c.requires.room;
  reads = λ scope skip stands listed. starts c.requires.empty stands listed;
}

pub returns-in-Err-clause-stops : goal.returns-in-Err-clause-stops
returns-in-Err-clause-stops c =
    stops_at_line _ c.in-Err.fault
    (line_of c.first_line.ensures.line c.without_return-line.ensures)
    (has_bytes c.without_return-line.result.now c.if-not-is_empty.ensures)
    (omega (arith, c.rows.ensures, c.if-rows-ge-ROWS_MAX.false))
    (c.in-Err.ensures.none, c.in-Err.ensures.unread)

pub loop-line-preserved-else-not-take : goal.loop-line-preserved-else-not-take
loop-line-preserved-else-not-take c =
    let before = c.loop-line.invariant in
    record {
      left = omega (arith, before.left, c.first_line.ensures.shorter);
      size = c.take.ensures.size ∙ before.size;
      few = omega (arith, c.feed.ensures.counted, c.rows.ensures, c.if-rows-ge-ROWS_MAX.false);
      room = c.take.ensures.count;
      reads = λ scope skip stands listed.
          goes_on_fault (before.reads scope skip stands listed)
          (line_of c.first_line.ensures.line c.without_return-line.ensures) c.in-Ok.ensures.row
          c.feed.ensures.counted (c.in-Some.ensures.ended scope) c.in-Some.ensures.row
          (omega (arith, before.left, before.size, c.requires.size))
          (c.if-not-take.ensures.taken refl c.args.rest.now.now);
    }

pub loop-line-preserved-in_default : goal.loop-line-preserved-in_default
loop-line-preserved-in_default c =
    let before = c.loop-line.invariant in
    record {
      left = omega (arith, before.left, c.first_line.ensures.shorter);
      size = before.size;
      few = omega (arith, c.feed.ensures.counted, c.rows.ensures, c.if-rows-ge-ROWS_MAX.false);
      room = before.room;
      reads = λ scope skip stands listed.
          goes_on_row (before.reads scope skip stands listed)
          (line_of c.first_line.ensures.line c.without_return-line.ensures) c.in-Ok.ensures.row
          c.feed.ensures.counted (c.in_default.ensures.taken scope);
    }

pub loop-line-preserved : goal.loop-line-preserved
loop-line-preserved c =
    let before = c.loop-line.invariant in
    record {
      left = omega (arith, before.left, c.first_line.ensures.shorter);
      size = before.size;
      few = before.few;
      room = before.room;
      reads = λ scope skip stands listed. goes_on_blank (before.reads scope skip stands listed)
          (blank_line_of c.without_return-line.result.now c.first_line.ensures.line
          c.without_return-line.ensures c.if-not-is_empty.ensures);
    }
