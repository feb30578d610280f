-- The paths of each device are led by an act of one, or of none.
use Rattle.mdb_run_search.proofs.Words.{if-ok, on-true}
use Rattle.mdb_run_search.proofs.AllPaths.{all-lead, all-led, all-within, none-leads, on-false}
use Rattle.mdb_run_search.proofs.explain.all_paths.AllPaths.lead.Goals as goal

pub returns-in-One-clause-led : goal.returns-in-One-clause-led
returns-in-One-clause-led c =
    if-ok c.lead_one.result _ _ (λ goes. on-true goes _ _ (λ one. all-led (all-lead c.args.goal.now
    c.args.act.now c.args.row c.args.self.now c.lead_one.new.self c.lead_one.ensures.kept
    c.in-One.device (λ other. (c.in-One.ensures other).0) one)))
    c.lead_one.ensures.led

pub returns-in-One-clause-none : goal.returns-in-One-clause-none
returns-in-One-clause-none c =
    if-ok c.lead_one.result _ _ (λ goes. on-false goes _ _
    (λ none profile pieces are. (c.in-One.device, none profile pieces (are c.in-One.device))))
    c.lead_one.ensures.none

pub returns-in-One-clause-within : goal.returns-in-One-clause-within
returns-in-One-clause-within c =
    if-ok c.lead_one.result _ _ (λ goes. on-true goes _ _ (λ one. all-within (all-lead
    c.args.goal.now c.args.act.now c.args.row c.args.self.now c.lead_one.new.self
    c.lead_one.ensures.kept c.in-One.device (λ other. (c.in-One.ensures other).0) one)))
    c.lead_one.ensures.led

pub returns-in-Nobody-clause-led : goal.returns-in-Nobody-clause-led
returns-in-Nobody-clause-led c = all-led (none-leads c.args.goal.now c.args.act.now c.args.row
    c.args.self.now c.in-Nobody.ensures)

pub returns-in-Nobody-clause-within : goal.returns-in-Nobody-clause-within
returns-in-Nobody-clause-within c =
    all-within (none-leads c.args.goal.now c.args.act.now c.args.row c.args.self.now
    c.in-Nobody.ensures)
