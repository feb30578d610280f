-- An act that isn't the device's own leaves its state and sums as they are.
use Rattle.mdb_machine.proofs.Ways.{still_elsewhere}
use Rattle.mdb_machine.proofs.pair.Pair.concerns.Goals as goal

pub returns-clause-still : goal.returns-clause-still
returns-clause-still g c =
    still_elsewhere g.Self.Pair.device c.device.result g.Self.Pair.machine c.args.act.now
    c.is_act_of.result g.met.Self.Pair.is_machine c.device.ensures c.is_act_of.ensures
