-- A reply steps by its news and by what is held after it. If either is impossible, so is the reply.
use Rattle.mdb_machine.proofs.Words.{ap, ◌∙◌, device_gains, in_slots, facts_in}
use Rattle.mdb_machine.proofs.KeeperConduct.{holding, telling, told, impossible, untold}
use Rattle.mdb_machine.proofs.Sizes.{summary_fits}
use Rattle.mdb_machine.proofs.conduct.reply_with.Goals as goal

pub summary_of-summary-requires : goal.summary_of-summary-requires
summary_of-summary-requires g c = summary_fits g.row.K-Kept g.met.K.Keeper.few_bytes

pub news-requires : goal.news-requires
news-requires g c = summary_fits g.row.K-Kept g.met.K.Keeper.few_bytes

pub returns-in_err-news-clause-step : goal.returns-in_err-news-clause-step
returns-in_err-news-clause-step g c =
    rw c.from_residual.ensures (untold c.is_poll.ensures c.holds.ensures c.holds_read-holds.ensures
    c.as_slice.ensures.value c.held-held.ensures c.summary_of-summary.ensures
    c.in_err-news.ensures.none)

pub returns-in_err-after-clause-step : goal.returns-in_err-after-clause-step
returns-in_err-after-clause-step g c =
    rw c.from_residual-in_err-after.ensures (impossible (telling g.K.Conduct.conduct
    (facts_in c.args.facts.now) {before = c.args.before} c.is_poll.ensures c.holds.ensures
    c.holds_read-holds.ensures c.as_slice.ensures.value c.held-held.ensures
    c.summary_of-summary.ensures c.in_ok-news.ensures.found c.in_ok-news.ensures.only)
    (holding g.K.Conduct.conduct (g.K.Keeper.tables.parts_of c.args.reply.now) c.args.choice
    {before = c.args.before} c.holds.ensures c.holds_read-holds.ensures
    (c.as_slice-2.ensures.value ∙ c.summary_of-summary.ensures.kept_is)
    c.holds_after.ensures c.with_holds-holding.ensures) c.in_err-after.ensures)

pub returns-clause-step : goal.returns-clause-step
returns-clause-step g c =
    told (telling g.K.Conduct.conduct (facts_in c.args.facts.now) {before = c.args.before}
    c.is_poll.ensures c.holds.ensures c.holds_read-holds.ensures c.as_slice.ensures.value
    c.held-held.ensures c.summary_of-summary.ensures c.in_ok-news.ensures.found
    c.in_ok-news.ensures.only) (holding g.K.Conduct.conduct
    (g.K.Keeper.tables.parts_of c.args.reply.now) c.args.choice {before = c.args.before}
    c.holds.ensures c.holds_read-holds.ensures
    (c.as_slice-2.ensures.value ∙ c.summary_of-summary.ensures.kept_is)
    c.holds_after.ensures c.with_holds-holding.ensures) c.in_ok-after.ensures
    (c.of_device.ensures.gains ∙ ap (λ list. device_gains (in_slots list)) c.worth.ensures.value)
