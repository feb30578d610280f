-- However rows are cut, what is told of the slices is told of the whole.
use Rattle.mdb_follow.specs.Slices.{joined}
use Rattle.mdb_follow.proofs.Cuts.{in-slices, one-answer, whole}
use Rattle.mdb_follow.proofs.laws.cuts_change_no_answer.Goals as goal

pub returns-clause-whole : goal.returns-clause-whole
returns-clause-whole c scope earlier slices answer = (
  whole scope earlier slices answer,
  in-slices scope (c.fronts_of_reached_rows_are_reached.ensures scope) earlier slices answer,
)

pub returns-clause-alike : goal.returns-clause-alike
returns-clause-alike c scope earlier one other a b same p q =
    one-answer scope (c.fronts_of_reached_rows_are_reached.ensures scope)
    (c.rows_have_one_report.ensures scope) (c.lists_have_one_offence.ensures scope) earlier
    (joined other) a b (rw same at (whole scope earlier one a p)) (whole scope earlier other b q)
