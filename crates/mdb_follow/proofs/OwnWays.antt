-- A way of a device through acts is one through its own acts among them, and the other way round.
use Rattle.mdb_follow.proofs.Words.{ap, refl, sym, ◌∙◌, ◌≡◌, inl, inr, List, [], ◌∷◌, AllByRecursion, Device, Act, breaks_among, Plain, no_gains, Machine, IsActOf, IsBreak, IsMachineOf, own_acts, Arrives, Sums, added, no_sums}
use Rattle.mdb_bus.specs.declared.act.Act.TheVariants as acts
use Rattle.mdb_machine.specs.shared.OwnWays.{with_other, with_own}
use Rattle.mdb_follow.proofs.Machines.{of_or_not}
use Rattle.mdb_follow.proofs.Ways.{no-gains}

-- which acts are a device's own: what mdb_cash says of that
pub record OwnActs : Type 0 where
  pub own : (device : Device) (act : Act) (so_far : List Act) → IsActOf device act
      → own_acts device (act ∷ so_far) ≡ act ∷ own_acts device so_far
  pub other : (device : Device) (act : Act) (so_far : List Act) → (IsActOf device act → ⊥)
      → own_acts device (act ∷ so_far) ≡ own_acts device so_far

pub own_laws : OwnActs
own_laws = record { own = with_own; other = with_other }

-- the breaks among acts are breaks
pub are_breaks : (so_far : List Act) → AllByRecursion IsBreak (breaks_among so_far)
are_breaks [] = tt
are_breaks (acts.Break length ∷ so_far) = (tt, are_breaks so_far)
are_breaks (act ∷ so_far) = are_breaks so_far

-- a way begins where the machine may start
pub first_of : {State : Type 0} (machine : Machine State) (so_far : List Act) (state : State)
    (sums : Sums) → Arrives machine so_far state sums → (first : State) × machine.Starts first
first_of machine [] state sums way = (state, way.0)
first_of machine (act ∷ so_far) state sums way =
    first_of machine so_far way.before way.sums_before way.way

module _ (laws : OwnActs) {State : Type 0} (device : Device) (machine : Machine State)
    (is : IsMachineOf device machine) where
  -- a device's own acts among its own acts are these
  twice : (so_far : List Act) → own_acts device (own_acts device so_far) ≡ own_acts device so_far
  twice [] = refl
  twice (act ∷ so_far) = elim (of_or_not device act) [
    | inl own ↦ rw (laws.own device act so_far own)
        (rw (laws.own device act (own_acts device so_far) own, twice so_far))
    | inr apart ↦ rw (laws.other device act so_far apart) (twice so_far)
  ]

  -- a way through acts is one through the device's own acts among them
  to_own : (so_far : List Act) (state : State) (sums : Sums) → Arrives machine so_far state sums
      → Arrives machine (own_acts device so_far) state sums
  to_own [] state sums way = way
  to_own (act ∷ so_far) state sums way = elim (of_or_not device act) [
    | inl own ↦ rw (laws.own device act so_far own) (record {
      choice = way.choice;
      stands = way.stands;
      before = way.before;
      sums_before = way.sums_before;
      gains = way.gains;
      way = to_own so_far way.before way.sums_before way.way;
      step = is.own so_far (own_acts device so_far) act way.choice way.before state way.gains
          (sym (twice so_far)) way.step;
      adds = way.adds;
    })
    | inr apart ↦
        let stays = (is.elsewhere so_far act way.choice way.before state way.gains apart).0
        way.step in
        let same : sums ≡ way.sums_before = way.adds ∙ ap (added way.sums_before) stays.1
        ∙ sym (no-gains way.sums_before) in
        rw (laws.other device act so_far apart, stays.0, same)
        (to_own so_far way.before way.sums_before way.way)
  ]

  -- and the other way round
  from_own : (so_far : List Act) (state : State) (sums : Sums)
      → Arrives machine (own_acts device so_far) state sums → Arrives machine so_far state sums
  from_own [] state sums way = way
  from_own (act ∷ so_far) state sums way = elim (of_or_not device act) [
    | inl own ↦
        let its = rw (laws.own device act so_far own) at way in
        record {
          choice = its.choice;
          stands = its.stands;
          before = its.before;
          sums_before = its.sums_before;
          gains = its.gains;
          way = from_own so_far its.before its.sums_before its.way;
          step = is.own (own_acts device so_far) so_far act its.choice its.before state its.gains
              (twice so_far) its.step;
          adds = its.adds;
        }
    | inr apart ↦ record {
      choice = Plain;
      stands = tt;
      before = state;
      sums_before = sums;
      gains = no_gains;
      way = from_own so_far state sums (rw (laws.other device act so_far apart) at way);
      step = (is.elsewhere so_far act Plain state state no_gains apart).1 (refl, refl);
      adds = no-gains sums;
    }
  ]

  -- so a way through acts is one through others where its own acts are the same
  pub ways_alike : (so_far other : List Act) → own_acts device so_far ≡ own_acts device other
      → (state : State) (sums : Sums)
      → Arrives machine so_far state sums → Arrives machine other state sums
  ways_alike so_far other same state sums way =
      from_own other state sums (rw same at (to_own so_far state sums way))

  -- a way through breaks alone leads to where the machine may start, and adds nothing
  over_breaks : (breaks : List Act) → AllByRecursion IsBreak breaks → (state : State) (sums : Sums)
      → Arrives machine breaks state sums → machine.Starts state × (sums ≡ no_sums)
  over_breaks [] all state sums way = way
  over_breaks (acts.Break length ∷ breaks) all state sums way =
      let earlier = over_breaks breaks all.1 way.before way.sums_before way.way in
      let over = is.starts_over breaks length way.choice way.before state way.gains way.step in (
        over.0,
        way.adds ∙ ap (added way.sums_before) over.1 ∙ sym (no-gains way.sums_before)
            ∙ earlier.1,
      )
  over_breaks (act ∷ breaks) all state sums way = absurd all.0

  -- and there is one, wherever the machine may start
  through_breaks : (breaks : List Act) → AllByRecursion IsBreak breaks → (first : State)
      → machine.Starts first → (state : State) × Arrives machine breaks state no_sums
  through_breaks [] all first starts = (first, (starts, refl))
  through_breaks (acts.Break length ∷ breaks) all first starts =
      let earlier = through_breaks breaks all.1 first starts in
      let goes = is.breaks breaks length Plain earlier.0 in
      let over = is.starts_over breaks length Plain earlier.0 goes.0 goes.1 goes.2 in (
        goes.0,
        record {
          choice = Plain;
          stands = tt;
          before = earlier.0;
          sums_before = no_sums;
          gains = goes.1;
          way = earlier.1;
          step = goes.2;
          adds = no-gains no_sums ∙ ap (added no_sums) (sym over.1);
        },
      )
  through_breaks (act ∷ breaks) all first starts = absurd all.0

  -- where a device has a part in breaks alone
  module _ (so_far breaks : List Act) (own : own_acts device so_far ≡ breaks_among breaks) where
    -- its ways add nothing
    pub adds_nothing : (state : State) (sums : Sums) → Arrives machine so_far state sums
        → sums ≡ no_sums
    adds_nothing state sums way = (over_breaks (breaks_among breaks) (are_breaks breaks) state sums
        (rw own at (to_own so_far state sums way))).1

    -- and there is one
    pub some_way : (first : State) → machine.Starts first
        → (state : State) × Arrives machine so_far state no_sums
    some_way first starts =
        let way = through_breaks (breaks_among breaks) (are_breaks breaks) first starts in
        (way.0, from_own so_far way.0 no_sums (rw own way.1))
