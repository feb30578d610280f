-- An ACK is a free act, so a loss that hears each free act as wished hears each ACK so.
use Rattle.mdb_bus.proofs.Words.{nothing_told}
use Rattle.mdb_bus.proofs.Fitting.{acks_wished}
use Rattle.mdb_bus.proofs.laws.acks_may_be_heard_or_not.Goals as goal

pub returns : goal.returns
returns c scope pieces are wish =
    let free = c.free_acts_may_be_heard_or_not.ensures scope pieces are wish in
    (free.0, free.1, acks_wished free.0 wish nothing_told pieces free.2)
