-- The lines of the marks so far are added.
use Rattle.mdb_explain.proofs.Words.{Puts, marks_text, output, take}
use Rattle.mdb_explain.proofs.explaining.add_marks.Given as goal

abbrev pub invariant-loop-mark : goal.invariant-loop-mark
invariant-loop-mark g l = Puts (output (g.W.Write.contents l.fn.writer) l.fn.page)
    (output (g.W.Write.contents l.writer) l.page) (marks_text (take l.mark-index l.marks))
