-- What is surveyed goes by how the reading of rows ended, and so does what is told of that.
use Rattle.mdb_survey.proofs.Words.{Err, IsErr, List, Memory, Ok, Result, ap, refl, rules, subst, ℕ, ◌≡◌, profile_of, Scope, found_by, Summary, survey_lines_in, PutsSurveying, Form, reads_all, reads_fault, reads_output, is_fault, RunFault, Output, begun, output}
use Rattle.mdb_survey.proofs.NoRows.{none_are_reached}
use Rattle.mdb_survey.proofs.Surveyings as surveyings
use Rattle.mdb_survey.proofs.surveying.survey_rows.Goals as goal

-- the form and the scope stay
kept : (all : List (List (List ℕ))) (read : ℕ) (before after : Output)
    (answer : Result Summary RunFault) (first : Scope × Form) {now : Scope × Form} → now ≡ first
    → PutsSurveying (survey_lines_in now.1 (profile_of now.0.begins)) now.0 all read before after
    answer
    → PutsSurveying (survey_lines_in first.1 (profile_of first.0.begins)) first.0 all read before
    after answer
kept all read before after answer first same surveys = subst (λ (k : Scope × Form).
    PutsSurveying (survey_lines_in k.1 (profile_of k.0.begins)) k.0 all read before after answer)
    same surveys

pub returns-in-Ok-None-clause-surveys : goal.returns-in-Ok-None-clause-surveys
returns-in-Ok-None-clause-surveys g c all to_come =
    kept _ _ _ _ _ _ c.read_rows.ensures.keeps (surveyings.whole _ _ _ _ _ _ _ _
    (rw c.in-Ok-None.field-0-is at (c.in-Ok-None.ensures.ended all to_come))
    (none_are_reached c.followers_stand_for_reached_rows.ensures
    c.fronts_of_reached_rows_are_reached.ensures) c.end.result c.end.ensures)

pub returns-in-Ok-Some-clause-surveys : goal.returns-in-Ok-Some-clause-surveys
returns-in-Ok-Some-clause-surveys g c all to_come =
    kept _ _ _ _ _ _ c.read_rows.ensures.keeps (surveyings.lines_untaken _ _ _ _ _ _ _
    (rw c.in-Ok-Some.field-0-is at (c.in-Ok-Some.ensures.ended all to_come)))

pub returns-in_ok-stop-in-Err-clause-surveys : goal.returns-in_ok-stop-in-Err-clause-surveys
returns-in_ok-stop-in-Err-clause-surveys g c all to_come =
    kept _ _ _ _ _ _ c.read_rows.ensures.keeps (surveyings.told_with_last _ _ _ _ _ _
    (found_by c.args.records.now) (found_by c.read_rows.new.records) c.in-Err.fault (search rules)
    (c.in-Err.ensures.ended all to_come)
    c.in-Err.ensures.counted _ _ c.in_ok-stop-in-Err.ensures)

pub returns-in_err-stop-in-Err-clause-surveys : goal.returns-in_err-stop-in-Err-clause-surveys
returns-in_err-stop-in-Err-clause-surveys g c all to_come =
    rw (is_fault c.from_residual.result c.from_residual.ensures.1)
    (kept _ _ _ _ _ _ c.read_rows.ensures.keeps (surveyings.last_refused _ _ _ _ _ _
    (found_by c.args.records.now) (found_by c.read_rows.new.records) c.in-Err.fault (search rules)
    (c.in-Err.ensures.ended all to_come)
    c.in-Err.ensures.counted (none_are_reached c.followers_stand_for_reached_rows.ensures
    c.fronts_of_reached_rows_are_reached.ensures) _ _ c.in_err-stop-in-Err.ensures))

pub returns-else-ne-clause-surveys : goal.returns-else-ne-clause-surveys
returns-else-ne-clause-surveys g c all to_come =
    let is : c.in-Err.fault ≡ Memory = search rules in
    rw is (kept _ _ _ _ _ _ c.read_rows.ensures.keeps (surveyings.out_of_memory _ _ _ _ _ _
    (none_are_reached c.followers_stand_for_reached_rows.ensures
    c.fronts_of_reached_rows_are_reached.ensures) _
    (rw is at (c.in-Err.ensures.ended all to_come))))

pub returns-in-Ok-None-clause-reads : goal.returns-in-Ok-None-clause-reads
returns-in-Ok-None-clause-reads g c =
    reads_all IsErr g.R.Read.remaining c.args.records.now c.read_rows.new.records
    (λ over. c.in-Ok-None.ensures.whole over (ap Ok c.in-Ok-None.field-0-is))
    (rw c.in-Ok-None.field-0-is at c.in-Ok-None.ensures.met) c.end.result
    (surveyings.end_of_output _ _ _ _ c.end.result c.end.ensures)

pub returns-in-Ok-Some-clause-reads : goal.returns-in-Ok-Some-clause-reads
returns-in-Ok-Some-clause-reads g c =
    let taker = c.read_rows.new.taker in
    reads_output IsErr g.R.Read.remaining c.args.records.now c.read_rows.new.records
    (Err c.in-Ok-Some.fault) refl (surveyings.stop_of_output
    (survey_lines_in taker.form (profile_of taker.scope.begins)) _
    (begun (g.W.Write.contents c.args.writer.now))
    (output (g.W.Write.contents c.read_rows.new.out) taker.printer.page) _
    (rw c.in-Ok-Some.field-0-is at c.in-Ok-Some.ensures.stopped))

pub returns-in_ok-stop-in-Err-clause-reads : goal.returns-in_ok-stop-in-Err-clause-reads
returns-in_ok-stop-in-Err-clause-reads g c =
    reads_fault IsErr g.R.Read.remaining c.args.records.now c.read_rows.new.records c.in-Err.fault
    refl c.in-Err.ensures.heard c.in-Err.ensures.met

pub returns-in_err-stop-in-Err-clause-reads : goal.returns-in_err-stop-in-Err-clause-reads
returns-in_err-stop-in-Err-clause-reads g c =
    rw (is_fault c.from_residual.result c.from_residual.ensures.1)
    (reads_output IsErr g.R.Read.remaining c.args.records.now c.read_rows.new.records _ refl
    (surveyings.last_of_output _ _ _ _ _ c.in_err-stop-in-Err.ensures))

pub returns-else-ne-clause-reads : goal.returns-else-ne-clause-reads
returns-else-ne-clause-reads g c =
    reads_fault IsErr g.R.Read.remaining c.args.records.now c.read_rows.new.records c.in-Err.fault
    refl c.in-Err.ensures.heard c.in-Err.ensures.met
