-- At first a reader's facts are those of no act. A recording from power-on knows them all.
use Rattle.mdb_cashless.proofs.KnownAfter.{known_first}
use Rattle.mdb_cashless.proofs.reader.known.ReaderKnown.start.Goals as goal

pub returns : goal.returns
returns c =
    known_first c.args.unit c.args.begins.now c.start.result c.is_power_on-knows.result
    c.is_power_on-knows.ensures c.start.ensures.config c.start.ensures.asked c.start.ensures.taken
    c.start.ensures.amount c.start.ensures.past
