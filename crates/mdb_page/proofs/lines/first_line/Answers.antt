-- A line ends at LF, or with the text.
use Rattle.mdb_page.specs.Lines.{ended, last}
use Rattle.mdb_page.proofs.lines.first_line.Goals as goal

pub returns-in-Some-clause-line : goal.returns-in-Some-clause-line
returns-in-Some-clause-line c = ended c.in-Some.ensures.cut

pub returns-in-None-clause-line : goal.returns-in-None-clause-line
returns-in-None-clause-line c = last c.in-None.ensures.none
