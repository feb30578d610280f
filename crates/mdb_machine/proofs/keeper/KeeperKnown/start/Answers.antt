-- At first the facts are those of no act, and all are known where a recording begins at power-on.
use Rattle.mdb_machine.proofs.Knowing.{known_at_first}
use Rattle.mdb_machine.proofs.keeper.KeeperKnown.start.Goals as goal

pub returns : goal.returns
returns g c =
    known_at_first g.K.Keeper.tables c.args.begins.now
    (record {
      facts = c.start.result;
      profile = c.profile.result;
      knows_asked = c.is_power_on-knows.result;
      knows_kept = c.is_power_on-knows.result;
    })
    c.start.ensures.setup c.start.ensures.asked c.profile.ensures
    c.start.ensures.enabled c.start.ensures.past c.is_power_on-knows.ensures
    c.is_power_on-knows.ensures
