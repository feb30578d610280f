-- An act changes the facts, and what is known of them, as it tells.
use Rattle.mdb_machine.proofs.Words.{refl}
use Rattle.mdb_machine.proofs.Knowing.{noted}
use Rattle.mdb_machine.proofs.keeper.KeeperKnown.note.Goals as goal

pub returns : goal.returns
returns g c =
    let knows = c.knows_after-knows_asked in
    noted g.K.Keeper.tables c.args.act.now c.args.self.now
    (record {
      facts = c.note.new.self;
      profile = c.args.self.now.profile;
      knows_asked = knows.result.0;
      knows_kept = knows.result.1;
    })
    c.note.ensures refl knows.ensures.asked knows.ensures.kept
