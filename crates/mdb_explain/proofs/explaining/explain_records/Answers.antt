-- What is answered and written goes by the verdict on the rows that are kept.
use Rattle.mdb_explain.proofs.Words.{AreRows, Err, IsAnswer, IsNoText, IsRowsText, No, Ok, ROWS_MAX, Yes, ap, from_power_on, is_fault, report_text, subst, sym, ◌∙◌}
use Rattle.mdb_explain.proofs.ExplainedTexts as explanations
use Rattle.mdb_explain.proofs.explaining.explain_records.Goals as goal

pub returns-in_err-report-clause-explained : goal.returns-in_err-report-clause-explained
returns-in_err-report-clause-explained g c all to_come =
    rw (is_fault c.from_residual.result c.from_residual.ensures.1) (record {
      answer = subst (λ s. IsAnswer s ROWS_MAX all (Err c.in_err-report.field-0.0))
          c.new-keeping.ensures.scope (c.in_err-report.ensures.answer all to_come);
      written = tt;
      cut = λ is. absurd ((rw c.in_err-report.was at c.kept_outcome.ensures.not_write) (cc is));
    })

pub returns-in-Yes-clause-explained : goal.returns-in-Yes-clause-explained
returns-in-Yes-clause-explained g c all to_come =
    let scope = from_power_on c.args.profile c.args.without in
    let rows = c.as_slice.result.now in
    let possible : IsAnswer scope ROWS_MAX all (Ok (Yes c.in-Yes.report)) =
    rw (c.in-Yes.is, c.new-keeping.ensures.scope) at (c.in_ok-report.ensures.answer all to_come)
    in
    let told : AreRows all rows = rw c.as_slice.ensures.value
    (rw c.in-Yes.is at (c.in_ok-report.ensures.rows all to_come)) in
    explanations.explained_told g.W.Write.contents c.args.writer.now c.explain_rows.new.writer
    (IsRowsText scope rows c.args.goal.now c.in-Yes.report) scope c.args.goal.now all
    (λ outcome text is. rw is.0 possible)
    (λ outcome text is. rw is.0
    (record { rows = rows; told = told; marks = is.1; explains = is.2; is = is.3 }))
    c.explain_rows.result c.explain_rows.ensures

pub returns-in-Yes-clause-leaves : goal.returns-in-Yes-clause-leaves
returns-in-Yes-clause-leaves g c =
    let scope = from_power_on c.args.profile c.args.without in
    explanations.leaves_told g.W.Write.contents c.args.writer.now c.explain_rows.new.writer
    (IsRowsText scope c.as_slice.result.now c.args.goal.now c.in-Yes.report) scope
    (λ offence text is. absurd (cc (is.0))) c.explain_rows.result c.explain_rows.ensures

pub returns-clause-explained : goal.returns-clause-explained
returns-clause-explained g c all to_come =
    let scope = from_power_on c.args.profile c.args.without in
    let impossible : IsAnswer scope ROWS_MAX all (Ok (No c.in-No.offence)) =
    rw (c.in-No.is, c.new-keeping.ensures.scope) at (c.in_ok-report.ensures.answer all to_come)
    in
    explanations.explained_told g.W.Write.contents c.args.writer.now c.tell_no.new.writer
    (IsNoText scope c.in-No.offence) scope c.args.goal.now all
    (λ outcome text is. rw is.0 impossible) (λ outcome text is. rw is.0 is.1)
    c.tell_no.result c.tell_no.ensures

pub returns-clause-leaves : goal.returns-clause-leaves
returns-clause-leaves g c =
    let scope = from_power_on c.args.profile c.args.without in
    explanations.leaves_told g.W.Write.contents c.args.writer.now c.tell_no.new.writer
    (IsNoText scope c.in-No.offence) scope
    (λ offence text is. is.1 ∙ ap (report_text scope) (sym is.0)) c.tell_no.result
    c.tell_no.ensures

pub returns-clause-whole : goal.returns-clause-whole
returns-clause-whole g c over =
    explanations.no_yes_told g.W.Write.contents c.args.writer.now c.tell_no.new.writer
    (from_power_on c.args.profile c.args.without) c.in-No.offence c.tell_no.result c.tell_no.ensures

pub explain_rows-requires-clause-reached : goal.explain_rows-requires-clause-reached
explain_rows-requires-clause-reached g c =
    rw c.as_slice.ensures.value (rw c.new-keeping.ensures.scope at
    (rw c.in-Yes.is at c.in_ok-report.ensures.reached))
