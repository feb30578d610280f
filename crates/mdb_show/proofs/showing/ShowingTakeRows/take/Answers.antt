-- The lines of the row are added.
use Rattle.mdb_show.proofs.Words.{subst, sym, scope_of, HasTakenOrStoppedAt, begun, output, lines_in, HasShown, HasStopped}
use Rattle.mdb_show.proofs.Showings.{added}
use Rattle.mdb_show.proofs.showing.ShowingTakeRows.take.Goals as goal

pub returns-clause-taken : goal.returns-clause-taken
returns-clause-taken g c before earlier has =
    let form = lines_in c.args.self.now.form in
    let held = begun (g.W.Write.contents before) in
    let now = output (g.W.Write.contents c.add.new.writer) c.add.new.printer.page in
    subst (λ s. HasTakenOrStoppedAt (HasShown form s c.add.new.self held now)
    (HasStopped form s c.add.new.self held now) earlier c.args.row c.transpose.result)
    (sym c.add.ensures.scope)
    (added form (scope_of c.args.self.now.lines.bus) c.add.new.self held now earlier
    c.args.row c.add.result c.transpose.result c.transpose.ensures
    (c.add.ensures.added held earlier has))
