-- The parts of a survey.
use Rattle.mdb_surveyor.proofs.Words.{arith, refl, ap, sym, subst, ◌∙◌, ◌≡◌, ◌+◌, ◌⊎◌, inl, inr, suc, Bool, true, false, if◌then◌else◌, ℕ, List, [], ◌∷◌, ◌++◌, Option, None, Some, All, Any, length, append_assoc, All-cons, All-nil, Event, Device, ReaderUnit, First, Second, DeviceSet, with_device, Rule, Profile, Base, Extended, Scope, acts_of, position_of, open_block, IsFollowed, profile_of, Offence, Report, IsOffence, Ended, Stretch, Told, EndBefore, EndInBlock, IsReaderAsked, IsReaderBeyond, GoesOnAfter, IsCutAt, IsSurvey, LeadFrom, StretchStart, first_place, left_out_asked, left_out_by_profile, left_out_for, is_told_below_2, told_after}
use Rattle.std.proofs.lemmas.Bool.{false_from_ne_true, true≢false}
use Rattle.mdb_msgs.specs.declared.command.Device.TheVariants.{Changer, Bill, Reader}
use Rattle.mdb_msgs.specs.DeviceSets.{has}
use Rattle.mdb_bus.specs.declared.fault.Blame.{Blame}
use Rattle.mdb_bus.specs.declared.fault.Blame.TheVariants as blames
use Rattle.mdb_bus.specs.declared.fault.Rule.TheVariants as rules
use Rattle.mdb_bus.specs.LinkFaults.{blame_on}
use Rattle.mdb_bus.specs.LeavingOut.{IsLeftOut}
use Rattle.mdb_surveyor.proofs.Asked.{asked_beyond, ends_so}
use Rattle.mdb_surveyor.proofs.Leading.{carried, lead_faults, lead_further, lead_rows}

module _ (start : StretchStart) where
  -- a cut after the last fault
  cut_after : (rows : List Event) (earlier : List Ended) (running : List Event)
      (place : StretchStart) → LeadFrom start rows earlier running place
      → IsCutAt start rows [] earlier running place
  cut_after rows [] running place lead = record {
    front = [];
    rest = rows;
    parts = refl;
    cut = start;
    to = (refl, refl);
    onward = lead;
  }
  cut_after rows (it ∷ earlier) running place goes = record {
    front = goes.front ++ goes.row ∷ [];
    rest = running;
    parts = goes.parts ∙ sym (append_assoc goes.front (goes.row ∷ []) running);
    cut = place;
    to = carried goes goes.front goes.lead refl;
    onward = (refl, refl);
  }

  pub cut_at : (rows : List Event) (later earlier : List Ended) (running : List Event)
      (place : StretchStart) → LeadFrom start rows (later ++ earlier) running place
      → IsCutAt start rows later earlier running place
  cut_at rows [] earlier running place lead = cut_after rows earlier running place lead
  cut_at rows (it ∷ later) earlier running place goes =
      let at = cut_at goes.front later earlier goes.before goes.from goes.lead in
      record {
        front = at.front;
        rest = at.rest ++ goes.row ∷ running;
        parts = goes.parts ∙ ap (λ l. l ++ goes.row ∷ running) at.parts
            ∙ append_assoc at.front at.rest (goes.row ∷ running);
        cut = at.cut;
        to = at.to;
        onward = carried goes at.rest at.onward refl;
      }

  pub together : (cut place : StretchStart) (front rest running : List Event)
      (earlier later : List Ended) → LeadFrom start front earlier [] cut
      → LeadFrom cut rest later running place
      → LeadFrom start (front ++ rest) (later ++ earlier) running place
  together cut place front rest running earlier [] to onward =
      rw (← onward.0, onward.1) (lead_further start front earlier [] cut rest to)
  together cut place front rest running earlier (it ∷ later) to goes = carried goes
      (front ++ goes.front)
      (together cut goes.from front goes.front goes.before earlier later to goes.lead)
      (ap (λ l. front ++ l) goes.parts ∙ sym (append_assoc front goes.front (goes.row ∷ running)))

  -- the profile stays what it is
  lead_profile : (rows : List Event) (ended : List Ended) (running : List Event)
      (place : StretchStart) → LeadFrom start rows ended running place
      → profile_of place.scope.begins ≡ profile_of start.scope.begins
  lead_profile rows [] running place lead = rw lead.1 refl
  lead_profile rows (it ∷ earlier) running place goes =
      ap (λ (p : StretchStart). profile_of p.scope.begins) goes.ends.on
      ∙ lead_profile goes.front earlier goes.before goes.from goes.lead

  -- rows end in those of the stretch that runs
  lead_end : (rows : List Event) (ended : List Ended) (running : List Event)
      (place : StretchStart) → LeadFrom start rows ended running place
      → (front : List Event) × (rows ≡ front ++ running)
  lead_end rows [] running place lead = ([], lead.0)
  lead_end rows (it ∷ earlier) running place goes = (
    goes.front ++ goes.row ∷ [],
    goes.parts ∙ sym (append_assoc goes.front (goes.row ∷ []) running),
  )

-- what is left out stays left out
with_stays : (without : DeviceSet) (more device : Device) → has without device ≡ true
    → has (with_device without more) device ≡ true
with_stays without Changer Changer is = refl
with_stays without Bill Bill is = refl
with_stays without (Reader First) (Reader First) is = refl
with_stays without (Reader Second) (Reader Second) is = refl
with_stays without more device is = is

-- and a reader that comes to be left out is this one
with_came : (without : DeviceSet) (unit : ReaderUnit) (device : Device)
    → has (with_device without (Reader unit)) device ≡ true
    → (has without device ≡ true) ⊎ (device ≡ Reader unit)
with_came without First (Reader First) out = inr refl
with_came without Second (Reader Second) out = inr refl
with_came without unit device out = inl out

-- why a reader comes to be left out: it is blamed for what isn't followed, or asked for it
abbrev Why : Profile → Rule → Blame → Option ReaderUnit → ReaderUnit → Type 0
Why Base broken blamed asked unit =
    (broken ≡ rules.Profile) × (blamed ≡ blame_on (Some (Reader unit)))
Why Extended broken blamed asked unit = asked ≡ Some unit

-- after a fault the same devices are left out, or one reader more
module _ (told : Told) (asked : Option ReaderUnit) (without : DeviceSet) where
  abbrev LeavesOut : Profile → Rule → Blame → DeviceSet → Type 0
  LeavesOut profile broken blamed after = (after ≡ without)
      ⊎ ((unit : ReaderUnit) × (after ≡ with_device without (Reader unit))
      × Why profile broken blamed asked unit)

  or_low : (unit : ReaderUnit) (low : Bool)
      → LeavesOut Base rules.Profile (blame_on (Some (Reader unit)))
      (if low then without else with_device without (Reader unit))
  or_low unit true = inl refl
  or_low unit false = inr (unit, refl, (refl, refl))

  by_blame : (broken : Rule) (blamed : Blame)
      → LeavesOut Base broken blamed (left_out_for broken told blamed without)
  by_blame rules.Profile blames.Cashless = or_low First (is_told_below_2 told First)
  by_blame rules.Profile blames.Cashless2 = or_low Second (is_told_below_2 told Second)
  by_blame rules.Profile blamed = inl refl
  by_blame broken blamed = inl refl

  leaves_out : (profile : Profile) (offence : Offence)
      → LeavesOut profile offence.rule offence.blame
      (left_out_by_profile profile told offence asked without)
  leaves_out Base offence = by_blame offence.rule offence.blame
  leaves_out Extended offence = by_asked asked
    where
      by_asked : (of : Option ReaderUnit)
          → (left_out_asked of without ≡ without)
          ⊎ ((unit : ReaderUnit) × (left_out_asked of without ≡ with_device without (Reader unit))
          × (of ≡ Some unit))
      by_asked (Some unit) = inr (unit, refl, refl)
      by_asked None = inl refl

  module _ (device : Device) (profile : Profile) (offence : Offence) where
    stays_so : has without device ≡ true
        → has (left_out_by_profile profile told offence asked without) device ≡ true
    stays_so is = elim (leaves_out profile offence) [
      | inl same ↦ rw same is
      | inr (unit, more, why) ↦ rw more (with_stays without (Reader unit) device is)
    ]

    came_so : has (left_out_by_profile profile told offence asked without) device ≡ true
        → (has without device ≡ true)
        ⊎ ((unit : ReaderUnit) × (device ≡ Reader unit)
        × Why profile offence.rule offence.blame asked unit)
    came_so out = elim (leaves_out profile offence) [
      | inl same ↦ inl (rw same at out)
      | inr (unit, more, why) ↦ elim (with_came without unit device (rw more at out)) [
        | inl before ↦ inl before
        | inr is ↦ inr (unit, is, why)
      ]
    ]

-- what is left out at the start is at the end
module _ (device : Device) where
  pub stays_left_out : (start : StretchStart) (rows : List Event) (ended : List Ended)
      (running : List Event) (place : StretchStart) → LeadFrom start rows ended running place
      → IsLeftOut start.scope device → IsLeftOut place.scope device
  stays_left_out start rows [] running place lead is = rw lead.1 is
  stays_left_out start rows (it ∷ earlier) running place goes is =
      rw goes.ends.on (stays_so (told_after goes.from.scope.begins goes.from.told
      (acts_of goes.ends.pieces)) goes.ends.asked goes.from.scope.without device
      (profile_of goes.from.scope.begins) goes.ends.offence
      (stays_left_out start goes.front earlier goes.before goes.from goes.lead is))

  -- and nobody else is followed again
  followed_before : (start : StretchStart) (rows : List Event) (ended : List Ended)
      (running : List Event) (place : StretchStart) → LeadFrom start rows ended running place
      → IsFollowed place.scope device → IsFollowed start.scope device
  followed_before start rows ended running place lead follows =
      false_from_ne_true (has start.scope.without device) (λ out.
      true≢false (sym (stays_left_out start rows ended running place lead out) ∙ follows))

pub last_stays : (scope : Scope) (rows : List Event) (ended : List Ended) (last : Stretch)
    (device : Device) → IsSurvey scope rows ended last → IsLeftOut scope device
    → IsLeftOut last.scope device
last_stays scope rows ended last device survey is = rw survey.is.begins
    (stays_left_out device (first_place scope) rows ended survey.running survey.place survey.lead
    is)

-- whoever is blamed is followed
abbrev pub BlamesFollowed : Type 0
BlamesFollowed = (scope : Scope) (rows : List Event) (row : Event) (offence : Offence)
    (device : Device) → IsOffence scope rows row offence
    → offence.blame ≡ blame_on (Some device) → IsFollowed scope device

-- of this fault, in a recording that is taken so
abbrev pub IsOnFollowed : Scope → Ended → Type 0
IsOnFollowed scope it =
    (device : Device) → it.fault.blame ≡ blame_on (Some device)
    → IsFollowed it.stretch.scope device × IsFollowed scope device

all_on_followed : BlamesFollowed → (start : StretchStart) (rows : List Event)
    (ended : List Ended) (running : List Event) (place : StretchStart)
    → LeadFrom start rows ended running place → All (IsOnFollowed start.scope) ended
all_on_followed law start rows [] running place lead = All-nil (IsOnFollowed start.scope)
all_on_followed law start rows (it ∷ earlier) running place goes =
    All-cons (IsOnFollowed start.scope) it earlier (λ device blame.
    let follows = law goes.from.scope goes.before goes.row goes.ends.offence device goes.ends.is
    (sym (ap (λ (o : Offence). o.blame) goes.ends.row_is) ∙ blame) in (
      rw goes.ends.stretch.begins follows,
      followed_before device start goes.front earlier goes.before goes.from goes.lead follows,
    ))
    (all_on_followed law start goes.front earlier goes.before goes.from goes.lead)

pub nobody_blamed : BlamesFollowed → (scope : Scope) (rows : List Event) (ended : List Ended)
    (last : Stretch) → IsSurvey scope rows ended last → All (IsOnFollowed scope) ended
nobody_blamed law scope rows ended last survey =
    all_on_followed law (first_place scope) rows ended survey.running survey.place survey.lead

-- the numbers of rows and stretches
ordered : (start : StretchStart) (rows : List Event) (ended : List Ended) (running : List Event)
    (place : StretchStart) → start.rows ≡ 0 → start.faults ≡ 0
    → LeadFrom start rows ended running place → EndBefore (place.rows + 1) ended
ordered start rows [] running place none first lead = rw lead.1 (omega arith)
ordered start rows (it ∷ earlier) running place none first goes =
    let number = goes.ends.is.number in
    let many = ap (λ (r : Report). r.rows) goes.ends.stretch.is.telling in
    let faults = lead_faults start goes.front earlier goes.before goes.from goes.lead in
    rw (goes.ends.on, goes.ends.row_is, goes.ends.stretch.begins) (
      omega (arith, number),
      omega (arith, number, many),
      omega arith,
      omega (arith, faults),
      ordered start goes.front earlier goes.before goes.from none first goes.lead,
    )

pub in_order : (scope : Scope) (rows : List Event) (ended : List Ended) (last : Stretch)
    → IsSurvey scope rows ended last
    → EndBefore last.first ended × (last.last ≡ length rows) × (last.number ≡ length ended + 1)
in_order scope rows ended last survey =
    let many = ap (λ (r : Report). r.rows) survey.is.is.telling in
    let counted = lead_rows (first_place scope) rows ended survey.running survey.place survey.lead
    in
    let faults = lead_faults (first_place scope) rows ended survey.running survey.place survey.lead
    in
    rw survey.is.begins (
      ordered (first_place scope) rows ended survey.running survey.place refl refl survey.lead,
      omega (arith, many, counted),
      omega (arith, faults),
    )

any_first : {X : Type 0} (P : X → Type 0) (x : X) (xs : List X) → P x → Any P (x ∷ xs)
any_first P x xs holds = (0, x, omega (arith), refl, holds)

any_later : {X : Type 0} (P : X → Type 0) (x : X) (xs : List X) → Any P xs → Any P (x ∷ xs)
any_later P x xs any = (suc any.0, any.1, omega (arith, any.2), any.3, any.4)

-- why a device is left out: from the start, or for some fault
abbrev Goes : StretchStart → List Event → Ended → List Ended → List Event → StretchStart → Type 0
Goes start rows it earlier running place =
    GoesOnAfter (λ front before from. LeadFrom start front earlier before from) rows it running
    place

module _ (start : StretchStart) (device : Device) (profile : Profile)
    (Came : List Event → List Ended → Type 0)
    (here : (rows : List Event) (it : Ended) (earlier : List Ended) (running : List Event)
    (place : StretchStart) (goes : Goes start rows it earlier running place) (unit : ReaderUnit)
    → device ≡ Reader unit
    → Why profile goes.ends.offence.rule goes.ends.offence.blame goes.ends.asked unit
    → Came rows (it ∷ earlier))
    (later : (rows : List Event) (it : Ended) (earlier : List Ended) (running : List Event)
    (place : StretchStart) (goes : Goes start rows it earlier running place)
    → Came goes.front earlier → Came rows (it ∷ earlier))
    (is : profile_of start.scope.begins ≡ profile) where
  why : (rows : List Event) (ended : List Ended) (running : List Event) (place : StretchStart)
      → LeadFrom start rows ended running place → IsLeftOut place.scope device
      → IsLeftOut start.scope device ⊎ Came rows ended
  why rows [] running place lead out = inl (rw lead.1 at out)
  why rows (it ∷ earlier) running place goes out =
      let told = told_after goes.from.scope.begins goes.from.told (acts_of goes.ends.pieces) in
      let same = lead_profile start goes.front earlier goes.before goes.from goes.lead ∙ is in
      elim (came_so told goes.ends.asked goes.from.scope.without device profile goes.ends.offence
      (subst (λ p. has (left_out_by_profile p told goes.ends.offence goes.ends.asked
      goes.from.scope.without) device ≡ true) same (rw goes.ends.on at out))) [
        | inl before ↦ elim (why goes.front earlier goes.before goes.from goes.lead before) [
          | inl first ↦ inl first
          | inr came ↦ inr (later rows it earlier running place goes came)
        ]
        | inr (unit, its, reason) ↦ inr (here rows it earlier running place goes unit its reason)
      ]

pub last_why : (scope : Scope) (rows : List Event) (ended : List Ended) (last : Stretch)
    (device : Device) → profile_of scope.begins ≡ Base → IsSurvey scope rows ended last
    → IsLeftOut last.scope device → IsLeftOut scope device ⊎ IsReaderBeyond ended device
last_why scope rows ended last device base survey out =
    why (first_place scope) device Base (λ rows ended. IsReaderBeyond ended device)
    (λ rows it earlier running place goes unit is why. record {
      unit = unit;
      is = is;
      fault = any_first _ _ _ (rw goes.ends.row_is why.0, rw (goes.ends.row_is, is) why.1);
    })
    (λ rows it earlier running place goes beyond. record {
      unit = beyond.unit;
      is = beyond.is;
      fault = any_later _ _ _ beyond.fault;
    }) base rows ended survey.running survey.place survey.lead (rw survey.is.begins at out)

-- ---- by the extended profile

-- rows before these change nothing
ends_after : (bytes : List ℕ) (before rows front : List Event) → front ≡ before ++ rows
    → EndInBlock bytes rows → EndInBlock bytes front
ends_after bytes before rows front parts ends = record {
  before = before ++ ends.before;
  words = ends.words;
  parts = parts ∙ ap (λ l. before ++ l) ends.parts
      ∙ sym (append_assoc before ends.before ends.words);
  said = ends.said;
}

asked_here : (start : StretchStart) (device : Device) → start.rows ≡ 0
    → {rows : List Event} {it : Ended} {earlier : List Ended} {running : List Event}
    {place : StretchStart} (goes : Goes start rows it earlier running place) (unit : ReaderUnit)
    → device ≡ Reader unit → goes.ends.asked ≡ Some unit → IsReaderAsked rows (it ∷ earlier) device
asked_here start device none {earlier = earlier} {running = running} goes unit is asked =
    let end = lead_end start goes.front earlier goes.before goes.from goes.lead in
    let counted = lead_rows start goes.front earlier goes.before goes.from goes.lead in
    let bytes = open_block (position_of goes.from.scope goes.ends.pieces) in
    let beyond = asked_beyond goes.ends.offence.rule bytes goes.ends.asked unit asked
    goes.ends.asked_is in
    let number = goes.ends.is.number in
    record {
      unit = unit;
      is = is;
      front = goes.front;
      row = goes.row;
      rest = running;
      parts = goes.parts;
      bytes = bytes;
      ends = ends_after bytes end.0 goes.before goes.front end.1
          (ends_so goes.from.scope goes.ends.pieces goes.before unit goes.ends.act_list
          beyond.1);
      asks = beyond.1;
      fault = any_first _ _ _
          (rw goes.ends.row_is beyond.0, rw goes.ends.row_is (omega (arith, number, counted)));
    }

pub last_asked : (scope : Scope) (rows : List Event) (ended : List Ended) (last : Stretch)
    (device : Device) → profile_of scope.begins ≡ Extended → IsSurvey scope rows ended last
    → IsLeftOut last.scope device → IsLeftOut scope device ⊎ IsReaderAsked rows ended device
last_asked scope rows ended last device extended survey out =
    why (first_place scope) device Extended (λ rows ended. IsReaderAsked rows ended device)
    (λ rows it earlier running place goes. asked_here (first_place scope) device refl goes)
    (λ rows it earlier running place goes by. record {
      unit = by.unit;
      is = by.is;
      front = by.front;
      row = by.row;
      rest = by.rest ++ goes.row ∷ running;
      parts = goes.parts ∙ ap (λ l. l ++ goes.row ∷ running) by.parts
          ∙ append_assoc by.front (by.row ∷ by.rest) (goes.row ∷ running);
      bytes = by.bytes;
      ends = by.ends;
      asks = by.asks;
      fault = any_later _ _ _ by.fault;
    }) extended rows ended survey.running survey.place survey.lead (rw survey.is.begins at out)
