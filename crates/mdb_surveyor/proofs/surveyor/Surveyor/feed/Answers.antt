-- A row that is taken ends nothing, and one that halts ends the stretch.
use Rattle.mdb_surveyor.proofs.surveyor.Surveyor.feed.Goals as goal

pub returns-else-take-clause-ended : goal.returns-else-take-clause-ended
returns-else-take-clause-ended c scope rows ended on =
    c.end_stretch.ensures.ended scope rows c.args.event ended
    (c.if-take.ensures.halted scope rows ended on)
