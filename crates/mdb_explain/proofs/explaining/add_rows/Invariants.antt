-- The lines of the rows so far are added.
use Rattle.mdb_explain.proofs.Words.{Puts, output, rows_text, take}
use Rattle.mdb_explain.proofs.explaining.add_rows.Given as goal

abbrev pub invariant-loop-row : goal.invariant-loop-row
invariant-loop-row g l = Puts (output (g.W.Write.contents l.fn.writer) l.fn.page)
    (output (g.W.Write.contents l.writer) l.page) (rows_text (take l.row-index l.rows))
