-- A reply has few enough messages for what is kept of them to fit.
use Rattle.mdb_machine.proofs.Sizes.{summary_fits}
use Rattle.mdb_machine.proofs.keeper.Keeper.summary_of.Goals as goal

pub summary_of-requires : goal.summary_of-requires
summary_of-requires g c =
    (summary_fits g.row.Self-Kept g.met.Self.Keeper.few_bytes, c.messages_in.ensures.few)
