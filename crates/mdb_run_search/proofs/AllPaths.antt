-- The paths of a device among those of all, whose chains share their links.
use Rattle.mdb_run_search.proofs.Words.{arith, ap, Contains, ◌∙◌, ◌≡◌, ◌+◌, ◌^◌, ℕ, Bool, true, false, List, ◌∷◌, ◌++◌, length, Result, Ok, inl, inr, refl, get_or, ◌<◌, ◌≤◌, OnFalse, OnTrue, IfOk, Event, Device, Act, PowerOn, Profile, Piece, Whole, acts_of, events_of, IsActOf, AllPaths, Best, Weight, Link, Goal, DEVICES, device_place, Mark, machine_of, own_marks, AreAllFacts, AreAllPaths, AreAllWithin, AreBestMarks, HasNoWay, weight_for, Denotes, IsChain, KeepChains, ints, below, earlier, placed, same_or_not, is_machine_of, unmoved, AreFactsOf, ArePathsOf, AreWithinOf, HasWay, LeadsPathsOf, OneLeadsPaths, paths_in, ArePaths, IsBestOf, subst, sym}
use Rattle.mdb_run_search.specs.declared.explain.paths.Paths.{Paths}
use Rattle.mdb_follow.specs.Sides.{FactsOf, code_of, codes_of, stands_for}
use Rattle.mdb_run_search.proofs.Bests.{as_good-then}
use Rattle.mdb_run_search.proofs.Chains.{denotes-one, keep-same, keep-then}
use Rattle.mdb_run_search.proofs.Paths.{entries-within-kept, paths-kept, paths-still}

pub on-false : (b : Bool) (P Q : Type 0) → (P → Q) → OnFalse b P → OnFalse b Q
on-false true P Q weaker h = tt
on-false false P Q weaker h = weaker h

-- paths of a device are those through the acts of pieces
abbrev pub PathsAt : Profile → (device : Device) → Weight → List Link → List Piece
    → Paths (FactsOf device) (codes_of device) → Type 0
PathsAt profile device weight links pieces paths =
    ArePaths (stands_for (PowerOn profile) device) (code_of device) device
    (machine_of (PowerOn profile) device) weight links pieces paths

-- what is of a device's paths is so with further links, where they stay
module _ (old new : AllPaths) (keep : KeepChains old.chains.links.items new.chains.links.items)
    (device : Device) (same : paths_in new device ≡ paths_in old device) where
  moved : (profile : Profile) (goal : Goal) (pieces : List Piece)
      → ArePathsOf profile goal pieces old device → ArePathsOf profile goal pieces new device
  moved profile goal pieces are =
      rw same (record { facts = are.facts; best = paths-kept keep are.best })

  within-moved : (limit : ℕ) → AreWithinOf limit old device → AreWithinOf limit new device
  within-moved limit are = rw same (entries-within-kept _ (omega arith) keep are)

-- Only the paths of one device are led, and those of the others stay.

module _ (goal : Goal) {device which : Device} {weight : Weight} (act : Act) (old : AllPaths)
    (is : device ≡ which) (weighs : weight ≡ weight_for goal device) where
  -- The paths of the device of an arm were led.
  pub one-leads : {E : Type 0} (r : Result Bool E) (row : ℕ) (new : AllPaths)
      → IfOk r (λ goes. OnTrue goes ((profile : Profile) (pieces : List Piece)
      (events : List Event) → row ≡ length (events_of pieces ++ events)
      → PathsAt profile which weight old.chains.links.items pieces (paths_in old which)
      → PathsAt profile which weight new.chains.links.items (Whole act events ∷ pieces)
      (paths_in new which)))
      → IfOk r (λ _. (limit : ℕ) → AreWithinOf limit old which
      → AreWithinOf (limit + 2 ^ 32) new which)
      → ((other : Device) → (other ≡ which → ⊥) → paths_in new other ≡ paths_in old other)
      → IfOk r (λ goes. OnTrue goes (OneLeadsPaths device goal act row old new))
  one-leads (Ok true) row new led within others =
      subst (λ d. OneLeadsPaths d goal act row old new) (sym is) (record {
        own = record {
          led = subst (λ w. (profile : Profile) (pieces : List Piece) (events : List Event)
              → row ≡ length (events_of pieces ++ events)
              → PathsAt profile which w old.chains.links.items pieces (paths_in old which)
              → PathsAt profile which w new.chains.links.items (Whole act events ∷ pieces)
              (paths_in new which)) (weighs ∙ ap (weight_for goal) is) led;
          within = within;
        };
        others = others;
      })
  one-leads r row new led within others = tt

  -- Where it has no way, the device has none.
  pub one-none : {E : Type 0} (r : Result Bool E)
      → IfOk r (λ goes. OnFalse goes ((profile : Profile) (pieces : List Piece)
      → PathsAt profile which weight old.chains.links.items pieces (paths_in old which)
      → HasNoWay profile pieces act which))
      → IfOk r (λ goes. OnFalse goes ((profile : Profile) (pieces : List Piece)
      → ArePathsOf profile goal pieces old device → HasNoWay profile pieces act device))
  one-none (Ok false) none = λ profile pieces are.
      subst (HasNoWay profile pieces act) (sym is) (none profile pieces
      (rw (weighs, is) (subst (ArePathsOf profile goal pieces old) is are)))
  one-none r none = tt

module _ (goal : Goal) (act : Act) (row : ℕ) (old new : AllPaths)
    (keep : KeepChains old.chains.links.items new.chains.links.items) where
  -- those of a device that has no part in the act are led where they stay
  stays : (device : Device) → paths_in new device ≡ paths_in old device
      → (IsActOf device act → ⊥) → LeadsPathsOf goal act row old new device
  stays device same other = record {
    led = λ profile pieces events at are. rw same (record {
      facts = unmoved (PowerOn profile) device _ (acts_of pieces) act other are.facts;
      best = paths-kept keep (paths-still act events
          (λ k d within acts choice before after gains is.
          (is_machine_of (PowerOn profile) device).elsewhere acts act choice before after gains
          other) are.best);
    });
    within = λ limit are. rw same (entries-within-kept _ (omega arith) keep are);
  }

  -- all are led where those of the only device are that has a part in the act
  pub all-lead : (device : Device) → ((other : Device) → IsActOf other act → other ≡ device)
      → OneLeadsPaths device goal act row old new → (other : Device)
      → LeadsPathsOf goal act row old new other
  all-lead device only one other = elim (same_or_not other device) [
    | inl same ↦ rw same one.own
    | inr apart ↦ stays other (one.others other apart) (λ of. apart (only other of))
  ]

-- and all stay where the act is no device's
pub none-leads : (goal : Goal) (act : Act) (row : ℕ) (all : AllPaths)
    → ((other : Device) → IsActOf other act → ⊥) → (device : Device)
    → LeadsPathsOf goal act row all all device
none-leads goal act row all none device =
    stays goal act row all all keep-same device refl (none device)

-- where those of each are led, all are those through an act more
module _ {goal : Goal} {act : Act} {row : ℕ} {old new : AllPaths}
    (leads : (device : Device) → LeadsPathsOf goal act row old new device) where
  pub all-led : (profile : Profile) (pieces : List Piece) (events : List Event)
      → row ≡ length (events_of pieces ++ events) → AreAllPaths profile goal pieces old
      → AreAllPaths profile goal (Whole act events ∷ pieces) new
  all-led profile pieces events at are device =
      (leads device).led profile pieces events at (are device)

  pub all-within : (limit : ℕ) → AreAllWithin limit old → AreAllWithin (limit + 2 ^ 32) new
  all-within limit are device = (leads device).within limit (are device)

-- In a loop over the devices: the paths of those before a place were led, those of the others are
-- what they were, and each chain has its marks.
pub record FrontLeads (goal : Goal) (act : Act) (row count : ℕ) (old mid : AllPaths) : Type 0 where
  pub gone : (device : Device) → device_place device < count
      → LeadsPathsOf goal act row old mid device
  pub waiting : (device : Device) → count ≤ device_place device
      → paths_in mid device ≡ paths_in old device
  pub kept : KeepChains old.chains.links.items mid.chains.links.items

module _ {goal : Goal} {act : Act} {row count : ℕ} {old mid : AllPaths} (d : Device)
    (within : count < 4) (front : FrontLeads goal act row count old mid) where
  abbrev Next : Device
  Next = get_or DEVICES count d

  -- those of the next device are what they were
  next-waits : paths_in mid Next ≡ paths_in old Next
  next-waits = front.waiting Next (omega (arith, placed count d within))

  pub front-more : (new : AllPaths) → OneLeadsPaths Next goal act row mid new
      → KeepChains mid.chains.links.items new.chains.links.items
      → FrontLeads goal act row (count + 1) old new
  front-more new one keep =
      let at = placed count d within in
      record {
        gone = λ device less. elim (same_or_not device Next) [
          | inl same ↦ rw same (record {
            led = λ profile pieces events is are. one.own.led profile pieces events is
                (moved old mid front.kept Next next-waits profile goal pieces are);
            within = λ limit are. one.own.within limit
                (within-moved old mid front.kept Next next-waits limit are);
          })
          | inr apart ↦
              let leads = front.gone device (earlier count Next device at less apart) in record {
                led = λ profile pieces events is are.
                    moved mid new keep device (one.others device apart) profile goal
                    (Whole act events ∷ pieces) (leads.led profile pieces events is are);
                within = λ limit are. within-moved mid new keep device (one.others device apart)
                    (limit + 2 ^ 32) (leads.within limit are);
              }
        ];
        waiting = λ device above.
            one.others device (λ same.
            let is = ap device_place same in omega (arith, above, at, is))
            ∙ front.waiting device (omega (arith, above));
        kept = keep-then front.kept keep;
      }

  -- the next device may be led
  pub front-stands : (profile : Profile) (acts : List Act) → AreAllFacts profile acts old
      → AreFactsOf profile acts mid Next
  front-stands profile acts are = rw next-waits (are Next)

  pub front-fits : (limit : ℕ) → AreAllWithin limit old → AreWithinOf limit mid Next
  front-fits limit are = within-moved old mid front.kept Next next-waits limit (are Next)

  -- and where it has no way, it had none
  pub front-none : ((profile : Profile) (pieces : List Piece)
      → ArePathsOf profile goal pieces mid Next → HasNoWay profile pieces act Next)
      → (profile : Profile) (pieces : List Piece) → AreAllPaths profile goal pieces old
      → (one : Device) × HasNoWay profile pieces act one
  front-none none profile pieces are = (
    Next,
    none profile pieces
        (moved old mid front.kept Next next-waits profile goal pieces (are Next)),
  )

-- in the end those of each device were led
pub front-all : {goal : Goal} {act : Act} {row count : ℕ} {old new : AllPaths} → 4 ≤ count
    → FrontLeads goal act row count old new → (device : Device)
    → LeadsPathsOf goal act row old new device
front-all all front device = front.gone device (omega (arith, all, below device))

-- the best of a device's entries is of a best way, and its chain has the marks of this
module _ (profile : Profile) (device : Device) (goal : Goal) {links : List Link}
    {pieces : List Piece} {paths : Paths (FactsOf device) (codes_of device)} {best : Best}
    (are : PathsAt profile device (weight_for goal device) links pieces paths) where
  pub best-listed : HasWay profile pieces device
      → ((entry : ℕ × Best) → Contains paths.entries.items entry
      → IsBestOf paths.entries.items best)
      → IsBestOf paths.entries.items best
  best-listed way is =
      let has = are.best.whole way.0 way.1 way.2 way.3 in
      is (code_of device way.0, has.best) has.listed

  pub best-chain : IsBestOf paths.entries.items best → IsChain links best.chain
  best-chain is = let path = are.best.sound (is.code, best) is.listed in (_, path.chain)

  pub best-marks : {marks : List (ℕ × Mark)} → IsBestOf paths.entries.items best
      → Denotes links best.chain marks → AreBestMarks profile goal pieces device marks
  best-marks {marks} is read =
      let path = are.best.sound (is.code, best) is.listed in
      let same : marks ≡ own_marks device pieces path.choices = denotes-one read path.chain in
      record {
        state = path.state;
        sums = path.sums;
        choices = path.choices;
        way = path.way;
        are = same;
        least = λ state sums choices way.
            (let has = are.best.whole state sums choices way in
            as_good-then (omega (arith, ints, ap length same))
            (as_good-then (is.least (code_of device state, has.best) has.listed) has.good));
      }
