-- A track is led by the only step of its machine.
use Rattle.mdb_run_search.proofs.Words.{refl, PowerOn}
use Rattle.mdb_run_search.proofs.Tracked.{leads}
use Rattle.mdb_run_search.proofs.track.lead.Goals as goal

pub returns-in-Some-clause-led : goal.returns-in-Some-clause-led
returns-in-Some-clause-led g c profile =
    leads c.unvalued_by.result (λ acts on. c.in-Some.ensures.step (PowerOn profile) acts on)
    (λ acts on. c.learn.ensures (PowerOn profile) acts on)
    c.moved-track.ensures c.in-Some.ensures.small
    (λ acts on. c.unvalued_by.ensures.adds (PowerOn profile) acts on)
    c.unvalued_by.ensures.small refl
