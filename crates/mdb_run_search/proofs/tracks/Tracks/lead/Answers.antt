-- An act of one device leads its track and leaves the others. An act of nobody leaves all.
use Rattle.mdb_run_search.proofs.Words.{if-ok}
use Rattle.mdb_run_search.proofs.Tracked.{all-lead, none-leads}
use Rattle.mdb_run_search.proofs.tracks.Tracks.lead.Goals as goal

pub returns-in-One-clause-led : goal.returns-in-One-clause-led
returns-in-One-clause-led c =
    if-ok c.lead_one.result _ _
    (λ _. all-lead c.in-One.device c.args.self.now c.lead_one.new.self c.args.act.now
    c.args.choice (λ other. (c.in-One.ensures other).0))
    c.lead_one.ensures.led

pub returns-in-Nobody-clause-led : goal.returns-in-Nobody-clause-led
returns-in-Nobody-clause-led c =
    none-leads c.args.self.now c.args.act.now c.args.choice c.in-Nobody.ensures
