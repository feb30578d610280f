-- The lines of the marks and then those of the rows are written, or the writer fails at one.
use Rattle.mdb_writing.specs.Output.{output}
use Rattle.mdb_writing.proofs.Outputs as outputs
use Rattle.mdb_explain.proofs.ExplainedTexts as explanations
use Rattle.mdb_explain.proofs.explaining.write_explanation.Goals as goal

pub returns-in_err-add_marks-clause-front : goal.returns-in_err-add_marks-clause-front
returns-in_err-add_marks-clause-front g c = explanations.broken_at_marks _ _ c.args.marks.now
    c.args.rows.now (outputs.put_begun _ _ c.new-page.ensures)
    (output (g.W.Write.contents c.add_marks.new.writer) c.add_marks.new.page)
    c.in_err-add_marks.ensures.broken

pub returns-in_err-add_rows-clause-front : goal.returns-in_err-add_rows-clause-front
returns-in_err-add_rows-clause-front g c = explanations.broken_at_rows _ _ c.args.marks.now
    c.args.rows.now (outputs.put_begun _ _ c.new-page.ensures) _
    (output (g.W.Write.contents c.add_rows.new.writer) c.add_rows.new.page)
    c.in_ok-add_marks.ensures.added c.in_err-add_rows.ensures.broken

pub returns-clause-written : goal.returns-clause-written
returns-clause-written g c =
    outputs.if_ok c.write_out.result _ _ (outputs.written_out _ _ _ _
    (explanations.explanation_put _ _ c.args.marks.now c.args.rows.now
    (outputs.put_begun _ _ c.new-page.ensures) _ _ c.in_ok-add_marks.ensures.added
    c.in_ok-add_rows.ensures.added)) c.write_out.ensures.written

pub returns-clause-front : goal.returns-clause-front
returns-clause-front g c =
    outputs.broken_out _ _ _ _
    (explanations.explanation_put _ _ c.args.marks.now c.args.rows.now
    (outputs.put_begun _ _ c.new-page.ensures) _ _ c.in_ok-add_marks.ensures.added
    c.in_ok-add_rows.ensures.added) c.write_out.ensures.front
