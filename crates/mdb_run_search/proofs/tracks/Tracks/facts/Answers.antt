-- Decimals and counts of each track are those that the acts so far show of its device.
use Rattle.mdb_run_search.proofs.Words.{refl, ◌∙◌, Device, First, Second, PowerOn, track_in, decimals-are, Bill, Changer, Reader}
use Rattle.mdb_run_search.proofs.tracks.Tracks.facts.Goals as goal

pub returns : goal.returns
returns c profile acts chosen on =
    let shown = λ (device : Device).
    decimals-are (PowerOn profile) device (track_in c.args.self.now device).facts acts
    (on device).facts in
    rw (
      c.decimals.ensures ∙ shown Changer,
      c.decimals-2.ensures ∙ shown Bill,
      c.decimals-3.ensures ∙ shown (Reader First),
      c.decimals-4.ensures ∙ shown (Reader Second),
      (on Changer).counted,
      (on Bill).counted,
      (on (Reader First)).counted,
      (on (Reader Second)).counted,
    ) refl
