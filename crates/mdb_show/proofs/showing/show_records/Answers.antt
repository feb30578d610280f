-- What is shown is written out at the end.
use Rattle.mdb_show.proofs.Words.{IsNotWhole, IsShowingIn, lines_in, reads_finished, told, output}
use Rattle.mdb_show.proofs.showing.show_records.Goals as goal

pub returns-clause-shows : goal.returns-clause-shows
returns-clause-shows g c all to_come =
    let held = g.W.Write.contents in
    told (IsShowingIn (lines_in c.args.form) c.args.scope.now all) (λ text is. is)
    (held c.args.writer.now) (held c.finish.new.writer)
    (output (held c.show_rows-answer.new.writer) c.show_rows-answer.new.showing.printer.page)
    c.show_rows-answer.result c.finish.result
    (rw (c.new-showing.ensures.form, c.new-showing.ensures.scope) at
    (c.show_rows-answer.ensures.shows all to_come)) c.finish.ensures

pub returns-clause-reads : goal.returns-clause-reads
returns-clause-reads g c =
    reads_finished IsNotWhole g.R.Read.remaining c.args.records.now
    c.show_rows-answer.new.records (g.W.Write.contents c.finish.new.writer) _
    c.show_rows-answer.result c.finish.result (λ is. absurd (cc))
    c.show_rows-answer.ensures.reads c.finish.ensures
