-- The lines of the marks so far are on their way, or the writer fails at one.
use Rattle.mdb_explain.proofs.Words.{mark_line, output, refl}
use Rattle.mdb_writing.proofs.Outputs as outputs
use Rattle.mdb_explain.proofs.explaining.add_marks.Goals as goal

pub loop-mark-init : goal.loop-mark-init
loop-mark-init g c =
    outputs.put_none (output (g.W.Write.contents c.args.writer.now) c.args.page.now)

pub returns-in_err-add_mark-clause-broken : goal.returns-in_err-add_mark-clause-broken
returns-in_err-add_mark-clause-broken g c =
    outputs.at_error c.from_residual.result _ (outputs.break_more mark_line _ _
    (output (g.W.Write.contents c.add_mark.new.writer) c.add_mark.new.page) c.args.marks.now _ _ _
    c.loop-mark-test.true c.loop-mark.invariant refl c.in_err-add_mark.ensures.broken)

pub loop-mark-preserved : goal.loop-mark-preserved
loop-mark-preserved g c = outputs.put_more mark_line _ _ _ c.args.marks.now _ _ _
    c.loop-mark-test.true c.loop-mark.invariant refl c.in_ok-add_mark.ensures.added

pub returns-clause-added : goal.returns-clause-added
returns-clause-added g c = outputs.put_all mark_line _ _ c.args.marks.now _ c.loop-mark-test.false
    c.loop-mark.invariant
