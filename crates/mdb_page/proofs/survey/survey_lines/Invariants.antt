-- The lines so far are surveyed.
use Rattle.mdb_page.proofs.Words.{LINES_ROOM, ROWS_MAX, length, ◌≡◌, ◌≤◌}
use Rattle.mdb_surveyor.specs.Surveyor.{rows_of}
use Rattle.mdb_page.proofs.Surveys.{Reads}
use Rattle.mdb_page.proofs.survey.survey_lines.Given as goal

abbrev pub invariant-loop-line : goal.invariant-loop-line
invariant-loop-line l = record {
  left : length l.rest.now ≤ length l.fn.rest.now;
  size : l.listing.bytes ≡ l.fn.listing.bytes;
  few : rows_of l.surveyor ≤ ROWS_MAX;
  room : l.lines.count ≤ LINES_ROOM;
  reads : Reads l.fn.surveyor l.fn.listing l.fn.faults l.fn.lines l.fn.rest.now l.rest.now
      l.surveyor l.listing l.faults l.lines;
}

abbrev pub decreases-loop-line : goal.decreases-loop-line
decreases-loop-line l = length l.rest.now
