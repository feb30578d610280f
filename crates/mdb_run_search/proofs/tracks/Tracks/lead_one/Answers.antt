-- The track of a device is led, those of the others stay.
use Rattle.mdb_run_search.proofs.Words.{each, ap, refl, ◌∙◌, Reader}
use Rattle.mdb_run_search.proofs.Tracked.{one-leads, one-stops}
use Rattle.mdb_run_search.proofs.tracks.Tracks.lead_one.Goals as goal

pub lead-requires : goal.lead-requires
lead-requires c = rw c.in-Changer.is at c.requires

pub returns-in-Changer : goal.returns-in-Changer
returns-in-Changer c = record {
  led = one-leads _ _ _ c.in-Changer.is _ _ c.lead.ensures.led
      (each _ (λ not. absurd (not refl)) (λ not. refl) (λ not. refl) (λ not. refl));
  stopped = one-stops _ _ _ c.in-Changer.is _ c.lead.ensures.none c.lead.ensures.its;
}

pub lead-requires-in-Bill : goal.lead-requires-in-Bill
lead-requires-in-Bill c = rw c.in-Bill.is at c.requires

pub returns-in-Bill : goal.returns-in-Bill
returns-in-Bill c = record {
  led = one-leads _ _ _ c.in-Bill.is _ _ c.lead-in-Bill.ensures.led
      (each _ (λ not. refl) (λ not. absurd (not refl)) (λ not. refl) (λ not. refl));
  stopped = one-stops _ _ _ c.in-Bill.is _ c.lead-in-Bill.ensures.none c.lead-in-Bill.ensures.its;
}

pub lead-requires-in-First : goal.lead-requires-in-First
lead-requires-in-First c = rw (c.in-Reader.is, c.in-First.is) at c.requires

pub returns-in-First : goal.returns-in-First
returns-in-First c =
    let is = c.in-Reader.is ∙ ap Reader c.in-First.is in record {
      led = one-leads _ _ _ is _ _ c.lead-in-First.ensures.led
          (each _ (λ not. refl) (λ not. refl) (λ not. absurd (not refl)) (λ not. refl));
      stopped = one-stops _ _ _ is _ c.lead-in-First.ensures.none c.lead-in-First.ensures.its;
    }

pub lead-requires-in-Second : goal.lead-requires-in-Second
lead-requires-in-Second c = rw (c.in-Reader.is, c.in-Second.is) at c.requires

pub returns-in-Second : goal.returns-in-Second
returns-in-Second c =
    let is = c.in-Reader.is ∙ ap Reader c.in-Second.is in record {
      led = one-leads _ _ _ is _ _ c.lead-in-Second.ensures.led
          (each _ (λ not. refl) (λ not. refl) (λ not. refl) (λ not. absurd (not refl)));
      stopped = one-stops _ _ _ is _ c.lead-in-Second.ensures.none c.lead-in-Second.ensures.its;
    }
