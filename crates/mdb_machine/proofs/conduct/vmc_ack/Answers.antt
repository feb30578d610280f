-- The ACK of a reply that isn't to POLL changes what the device holds, and no sum.
use Rattle.mdb_machine.proofs.Words.{sym, ◌∙◌, refl}
use Rattle.mdb_machine.proofs.KeeperConduct.{acknowledged}
use Rattle.mdb_machine.proofs.Sizes.{summary_fits}
use Rattle.mdb_machine.proofs.conduct.vmc_ack.Goals as goal

pub summary_of-summary-requires : goal.summary_of-summary-requires
summary_of-summary-requires g c = summary_fits g.row.K-Kept g.met.K.Keeper.few_bytes

pub returns-then-not-is_poll-clause-step : goal.returns-then-not-is_poll-clause-step
returns-then-not-is_poll-clause-step g c =
    acknowledged (sym c.if-not-is_poll.true ∙ c.is_poll.ensures)
    c.summary_of-summary.ensures.reset_is
    (c.as_slice-kept.ensures.value ∙ c.summary_of-summary.ensures.kept_is)
    c.holds.ensures c.holds_acked.ensures c.with_holds-released.ensures refl c.none.ensures
