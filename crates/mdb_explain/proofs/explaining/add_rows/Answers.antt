-- The lines of the rows so far are on their way, or the writer fails at one.
use Rattle.mdb_explain.proofs.Words.{ap, output, row_line}
use Rattle.mdb_writing.proofs.Outputs as outputs
use Rattle.mdb_explain.proofs.explaining.add_rows.Goals as goal

pub loop-row-init : goal.loop-row-init
loop-row-init g c =
    outputs.put_none (output (g.W.Write.contents c.args.writer.now) c.args.page.now)

pub returns-in_err-add_row-clause-broken : goal.returns-in_err-add_row-clause-broken
returns-in_err-add_row-clause-broken g c =
    outputs.at_error c.from_residual.result _ (outputs.break_more row_line _ _
    (output (g.W.Write.contents c.add_row.new.writer) c.add_row.new.page) c.args.rows.now _ _ _
    c.loop-row-test.true c.loop-row.invariant (ap row_line c.row-item.is)
    c.in_err-add_row.ensures.broken)

pub loop-row-preserved : goal.loop-row-preserved
loop-row-preserved g c = outputs.put_more row_line _ _ _ c.args.rows.now _ _ _
    c.loop-row-test.true c.loop-row.invariant (ap row_line c.row-item.is)
    c.in_ok-add_row.ensures.added

pub returns-clause-added : goal.returns-clause-added
returns-clause-added g c = outputs.put_all row_line _ _ c.args.rows.now _ c.loop-row-test.false
    c.loop-row.invariant
