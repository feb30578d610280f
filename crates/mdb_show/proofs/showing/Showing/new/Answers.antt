-- Before the first row there are no pieces, and nothing is written.
use Rattle.mdb_show.proofs.Words.{lines_in}
use Rattle.mdb_show.proofs.Showings.{begins}
use Rattle.mdb_show.proofs.showing.Showing.new.Goals as goal

pub returns-clause-shown : goal.returns-clause-shown
returns-clause-shown c =
    begins (lines_in c.args.form) c.args.scope.now c.new.result c.new-2.result.page
    c.new.ensures.scope
    c.new.ensures.stands c.new.ensures.rows c.new.ensures.shown c.new-2.ensures
