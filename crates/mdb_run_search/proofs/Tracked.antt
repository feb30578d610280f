-- Tracks go on by the only step of their machine: that of one device, those of all, and those that
-- have no part in an act.
use Rattle.mdb_run_search.proofs.Words.{arith, refl, sym, ap, ◌∙◌, ◌≡◌, ◌≤◌, ◌+◌, ◌*◌, ◌^◌, ℕ, List, ◌∷◌, Some, ◌<◌, get_or, inl, inr, Ok, Err, Result, IfErr, IfOk, OnErr, Device, Act, Rule, PowerOn, Profile, Choice, Gains, no_gains, IsSmall, Machine, IsActOf, IsOnlyStep, Tracks, moved_cell, added, DEVICES, Choices, machine_of, rule_of, HasNoStepFrom, IsTrackOf, TrackOf, track_in, Front, front-next, same_or_not, is_machine_of, unmoved, untold, AreTracksWithin, IsTrackWithin, Leads, LeadsOf, OneLeads, TrackStops, TracksLead, TracksStop, Base}
use Rattle.mdb_run_search.specs.declared.track.Track.{Track}
use Rattle.mdb_follow.proofs.Ways.{no-gains}
use Rattle.mdb_follow.proofs.Ends.{Moved, cell-moved, cell-moved-within, cell-same, cell-within-weaker}

-- a track was led over an act by the only step from its state
pub leads : {Facts State : Type 0} {stands_for : Facts → List Act → Type 0}
    {machine : Machine State} {unvalued : List Act → ℕ} {old new : Track Facts State} {act : Act}
    {choice : Choice} {gains : Gains} (by : ℕ)
    → ((acts : List Act) → stands_for old.facts acts
    → IsOnlyStep (machine.Step acts act choice old.state) (Some (new.state, gains)))
    → ((acts : List Act) → stands_for old.facts acts → stands_for new.facts (act ∷ acts))
    → new.cell ≡ moved_cell old.cell gains → IsSmall gains
    → ((acts : List Act) → stands_for old.facts acts
    → unvalued (act ∷ acts) ≡ by + unvalued acts)
    → by ≤ 35 → new.unvalued ≡ old.unvalued + by
    → Leads stands_for machine unvalued old act choice new
leads {machine = machine} {old = old} {act = act} {choice} {gains} by only learns moved small adds
    few more =
    record {
      stands = λ acts chosen can on.
          let one = only acts on.facts in
          let told = adds acts on.facts in
          let counted = on.counted in
          record {
            facts = learns acts on.facts;
            sums = added on.sums gains;
            way = record {
              before = old.state;
              sums_before = on.sums;
              gains = gains;
              way = on.way;
              step = one.0;
              adds = refl;
            };
            only = λ state other way.
                let was = on.only way.before way.sums_before way.way in
                let same = one.1 state way.gains (rw was.0 at way.step) in
                (same.0, cc (was.1, same.1));
            cell = rw moved (cell-same (Moved (λ other. other ≡ on.sums) gains)
                (λ other. other ≡ added on.sums gains) (moved_cell old.cell gains)
                (λ sums m. m.adds ∙ ap (λ before. added before gains) m.kind)
                (λ sums is. record { before = on.sums; kind = refl; adds = is })
                (cell-moved (λ other. other ≡ on.sums) old.cell gains on.cell));
            counted = omega (arith, told, counted, more);
          };
      within = λ limit fits.
          let count = fits.count in
          record {
            ends = rw moved (cell-moved-within limit old.cell gains fits.ends small);
            count = omega (arith, few, count, more);
          };
    }

track-within-weaker : {Facts State : Type 0} {limit more : ℕ} {track : Track Facts State}
    → limit ≤ more → IsTrackWithin limit track → IsTrackWithin more track
track-within-weaker {limit = limit} {more} {track} le is =
    record { ends = cell-within-weaker limit more track.cell le is.ends; count = omega arith }

-- an act in which a device has no part leaves its track, whatever the choice
still : (device : Device) (track : TrackOf device) (act : Act) (choice : Choice)
    → (IsActOf device act → ⊥) → LeadsOf act choice device track track
still device track act choice other profile =
    let is = is_machine_of (PowerOn profile) device in
    record {
      stands = λ acts chosen can on. record {
        facts = unmoved (PowerOn profile) device track.facts acts act other on.facts;
        sums = on.sums;
        way = record {
          before = track.state;
          sums_before = on.sums;
          gains = no_gains;
          way = on.way;
          step = (is.elsewhere acts act choice track.state track.state no_gains other).1
              (refl, refl);
          adds = no-gains on.sums;
        };
        only = λ state sums way.
            let was = on.only way.before way.sums_before way.way in
            let stays = (is.elsewhere acts act choice way.before state way.gains other).0 way.step
            in
            (stays.0 ∙ was.0, cc (was.1, stays.1, no-gains way.sums_before));
        cell = on.cell;
        counted = on.counted ∙ sym (untold (PowerOn profile) device acts act other);
      };
      within = λ limit. track-within-weaker (omega arith);
    }

module _ {T : Type 0} {device which : Device} (old : Tracks) (act : Act) (choice : Choice)
    (is : device ≡ which) where
  -- The track of the device that an arm is of goes on.
  pub one-leads : {E : Type 0} (r : Result T E) (new : Tracks)
      → IfOk r (λ _. LeadsOf act choice which (track_in old which) (track_in new which))
      → ((other : Device) → (other ≡ which → ⊥) → track_in new other ≡ track_in old other)
      → IfOk r (λ _. OneLeads device old act choice new)
  one-leads (Ok x) new goes others = rw is (record { own = goes; others = others })
  one-leads (Err e) new goes others = tt

  -- It has no step.
  pub one-stops : (r : Result T Rule)
      → OnErr r ((profile : Profile) (acts : List Act) (chosen : Choices acts)
      → IsTrackOf profile which (track_in old which) acts chosen
      → HasNoStepFrom (machine_of (PowerOn profile) which) acts act choice
      (track_in old which).state)
      → IfErr r (λ broken. broken ≡ rule_of which) → IfErr r (TrackStops device old act choice)
  one-stops (Ok x) none its = tt
  one-stops (Err broken) none its = rw is (record { rule = its; none = none })

-- All go on by an act that is of no other device than one that goes on.
pub all-lead : (device : Device) (old new : Tracks) (act : Act) (choice : Choice)
    → ((other : Device) → IsActOf other act → other ≡ device)
    → OneLeads device old act choice new → TracksLead old act choice new
all-lead device old new act choice only leads other = elim (same_or_not other device) [
  | inl same ↦ rw same leads.own
  | inr apart ↦ rw (leads.others other apart)
      (still other (track_in old other) act choice (λ of. apart (only other of)))
]

-- All stay where the act is no device's.
pub none-leads : (tracks : Tracks) (act : Act) (choice : Choice)
    → ((other : Device) → IsActOf other act → ⊥) → TracksLead tracks act choice tracks
none-leads tracks act choice none device =
    still device (track_in tracks device) act choice (none device)

-- the tracks of the devices before a place were led
abbrev pub FrontLeads : ℕ → Tracks → Act → Choice → Tracks → Type 0
FrontLeads count old act choice new =
    Front TrackOf (LeadsOf act choice) count (track_in old) (track_in new)

-- the next stands as it was before
module _ (count : ℕ) (old : Tracks) (act : Act) (choice : Choice) (mid : Tracks) (d : Device)
    (within : count < 4) (front : FrontLeads count old act choice mid) where
  stood : track_in mid (get_or DEVICES count d) ≡ track_in old (get_or DEVICES count d)
  stood = front-next TrackOf (LeadsOf act choice) count (track_in old) (track_in mid) d within front

  -- it has no step where it had none before
  pub front-stops : (broken : Rule) → TrackStops (get_or DEVICES count d) mid act choice broken
      → TracksStop old act choice broken
  front-stops broken stops =
      (get_or DEVICES count d, record { rule = stops.rule; none = rw stood at stops.none })

  -- and is as far from 0 as it was
  pub front-fits : (limit : ℕ) → AreTracksWithin limit old
      → IsTrackWithin limit (track_in mid (get_or DEVICES count d))
  front-fits limit on = rw stood (on (get_or DEVICES count d))

-- how far from 0 the ends of all tracks and their counts are, by the rows of a recording
pub tracks-within-weaker : {limit more : ℕ} (tracks : Tracks) → limit ≤ more
    → AreTracksWithin limit tracks → AreTracksWithin more tracks
tracks-within-weaker tracks le is device = track-within-weaker le (is device)

-- tracks that were led from some within the limit of so many rows are within that of one row more
pub tracks-within-next : (rows : ℕ) (old : Tracks) (act : Act) (choice : Choice) (new : Tracks)
    → AreTracksWithin (rows * 2 ^ 32) old → TracksLead old act choice new
    → AreTracksWithin ((rows + 1) * 2 ^ 32) new
tracks-within-next rows old act choice new within led device =
    track-within-weaker (omega arith) ((led device Base).within (rows * 2 ^ 32) (within device))
