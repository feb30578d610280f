-- A row with the effect of a break goes its step, with its start and length.
use Rattle.mdb_bus.proofs.EachLead.{each_break}
use Rattle.mdb_bus.proofs.place.Place.advance.Goals as goal

pub returns-in-Break-clause-advanced : goal.returns-in-Break-clause-advanced
returns-in-Break-clause-advanced c =
    each_break c.args.effect c.args.row.now _ c.in-Break.is
    (λ at length is there. c.end_by_break.ensures.advanced at length is)
