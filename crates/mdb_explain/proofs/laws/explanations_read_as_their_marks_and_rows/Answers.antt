-- The text of an explanation is read as it was written, and is short.
use Rattle.mdb_explain.proofs.ExplanationLengths.{explanation_short}
use Rattle.mdb_explain.proofs.Explanations.{read_as_written}
use Rattle.mdb_explain.proofs.laws.explanations_read_as_their_marks_and_rows.Goals as goal

pub returns-clause-reads : goal.returns-clause-reads
returns-clause-reads c = read_as_written

pub returns-clause-short : goal.returns-clause-short
returns-clause-short c = explanation_short
