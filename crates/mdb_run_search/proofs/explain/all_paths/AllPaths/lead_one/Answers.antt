-- The paths of a device are led, those of the others stay.
use Rattle.mdb_run_search.proofs.Words.{each, ap, refl, rules, ◌∙◌, Reader}
use Rattle.mdb_run_search.proofs.AllPaths.{one-leads, one-none}
use Rattle.mdb_run_search.proofs.explain.all_paths.AllPaths.lead_one.Goals as goal

pub lead-requires : goal.lead-requires
lead-requires c =
    let its = rw c.in-Changer.is at c.requires in
    (search rules, (refl, (its.stands, its.within)))

pub returns-in-Changer : goal.returns-in-Changer
returns-in-Changer c = record {
  led = one-leads _ _ _ c.in-Changer.is c.weight_of-weight.ensures _ _ _ c.lead.ensures.led
      c.lead.ensures.within
      (each _ (λ not. absurd (not refl)) (λ not. refl) (λ not. refl) (λ not. refl));
  none = one-none _ _ c.args.self.now c.in-Changer.is c.weight_of-weight.ensures _
      c.lead.ensures.none;
  kept = c.lead.ensures.kept;
}

pub lead-requires-in-Bill : goal.lead-requires-in-Bill
lead-requires-in-Bill c =
    let its = rw c.in-Bill.is at c.requires in
    (search rules, (refl, (its.stands, its.within)))

pub returns-in-Bill : goal.returns-in-Bill
returns-in-Bill c = record {
  led = one-leads _ _ _ c.in-Bill.is c.weight_of-weight.ensures _ _ _ c.lead-in-Bill.ensures.led
      c.lead-in-Bill.ensures.within
      (each _ (λ not. refl) (λ not. absurd (not refl)) (λ not. refl) (λ not. refl));
  none = one-none _ _ c.args.self.now c.in-Bill.is c.weight_of-weight.ensures _
      c.lead-in-Bill.ensures.none;
  kept = c.lead-in-Bill.ensures.kept;
}

pub lead-requires-in-First : goal.lead-requires-in-First
lead-requires-in-First c =
    let its = rw (c.in-Reader.is, c.in-First.is) at c.requires in
    (search rules, (refl, (its.stands, its.within)))

pub returns-in-First : goal.returns-in-First
returns-in-First c =
    let is = c.in-Reader.is ∙ ap Reader c.in-First.is in record {
      led = one-leads _ _ _ is c.weight_of-weight.ensures _ _ _ c.lead-in-First.ensures.led
          c.lead-in-First.ensures.within
          (each _ (λ not. refl) (λ not. refl) (λ not. absurd (not refl)) (λ not. refl));
      none = one-none _ _ c.args.self.now is c.weight_of-weight.ensures _
          c.lead-in-First.ensures.none;
      kept = c.lead-in-First.ensures.kept;
    }

pub lead-requires-in-Second : goal.lead-requires-in-Second
lead-requires-in-Second c =
    let its = rw (c.in-Reader.is, c.in-Second.is) at c.requires in
    (search rules, (refl, (its.stands, its.within)))

pub returns-in-Second : goal.returns-in-Second
returns-in-Second c =
    let is = c.in-Reader.is ∙ ap Reader c.in-Second.is in record {
      led = one-leads _ _ _ is c.weight_of-weight.ensures _ _ _ c.lead-in-Second.ensures.led
          c.lead-in-Second.ensures.within
          (each _ (λ not. refl) (λ not. refl) (λ not. refl) (λ not. absurd (not refl)));
      none = one-none _ _ c.args.self.now is c.weight_of-weight.ensures _
          c.lead-in-Second.ensures.none;
      kept = c.lead-in-Second.ensures.kept;
    }
