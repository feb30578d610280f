-- The best ways of one device: through no act, and through one act more.
use Rattle.mdb_run_search.proofs.Words.{arith, refl, sym, subst, ap, ◌∙◌, ◌≡◌, ◌↔◌, ◌+◌, ◌<◌, ℕ, List, [], ◌∷◌, ◌++◌, length, get_or, Contains, Bool, true, false, if◌then◌else◌, length-append, take, ints, take_more, All-append, All-cons, All-contains, All-nil, Contains-get_or, Event, Device, Act, Piece, Whole, acts_of, events_of, has_part, Choice, Plain, Gains, CanStand, Stays, no_gains, Machine, Best, Weight, Link, Mark, Choices, Follows, marks_at, own_marks, Sums, added, no_sums, Denotes, KeepChains, AllRest, AreEntriesWithin, AreLed, AreStarts, HasAsGood, IsPaths, RestsAt, no_path, weigh, weight_of, contains-none, append-nil, inl, inr, cases_eq, Contains-append_left, Contains-push, Contains-push_cases, ◌^◌, ◌≤◌, IsEntryWithin}
use Rattle.mdb_run_search.specs.inner.Chains.{nothing}
use Rattle.mdb_run_search.proofs.Bests.{as_good-more, has-weaker, marks-few}
use Rattle.mdb_run_search.proofs.Weights.{weigh-adds, weigh-none, weight-none, weight-near}

-- through no act: one entry for each state in which a machine may start

module _ {State : Type 0} {number code : ℕ} {code_of : State → ℕ} {machine : Machine State}
    {entries : List (ℕ × Best)} (state : State)
    (apart : (one other : State) → code_of one ≡ code_of other → one ≡ other)
    (is : code_of state ≡ code) (are : AreStarts number code_of machine code entries) where
  -- a state in which it may start has its entry
  pub more-starts : code < number → machine.Starts state
      → AreStarts number code_of machine (code + 1) (entries ++ (code, no_path) ∷ [])
  more-starts below starts = record {
    sound = λ entry has. elim (Contains-push_cases entries (code, no_path) entry has) [
      | inl old ↦ are.sound entry old
      | inr same ↦ rw (← same) (state, starts, is, below, refl)
    ];
    whole = λ one may within. elim (cases_eq (code_of one) code) [
      | inl same ↦ rw same (Contains-push entries (code, no_path))
      | inr other ↦ Contains-append_left entries ((code, no_path) ∷ []) (code_of one, no_path)
          (are.whole one may (omega (arith, within, other)))
    ];
  }

  -- and another has none
  pub same-starts : (machine.Starts state → ⊥) → AreStarts number code_of machine (code + 1) entries
  same-starts not = record {
    sound = are.sound;
    whole = λ one may within. elim (cases_eq (code_of one) code) [
      | inl same ↦ absurd (not (rw (apart one state (same ∙ sym is)) at may))
      | inr other ↦ are.whole one may (omega (arith, within, other))
    ];
  }

module _ {State : Type 0} {number : ℕ} {code_of : State → ℕ} {machine : Machine State}
    {entries : List (ℕ × Best)} (links : List Link)
    (are : AreStarts number code_of machine number entries) where
  pub start-paths : {device : Device} {weight : Weight} → ((state : State) → code_of state < number)
      → IsPaths code_of device machine weight links [] entries
  start-paths {weight = weight} below = record {
    sound = λ entry has.
        (let one = are.sound entry has in
        record {
          state = one.0;
          is = one.2;
          sums = no_sums;
          choices = tt;
          way = (one.1, refl);
          value = ap (λ b. b.value) one.4 ∙ sym (weigh-none weight);
          chain = rw one.4 nothing;
          marks = ap (λ b. b.marks) one.4;
        });
    whole = λ state sums choices way. record {
      best = no_path;
      listed = are.whole state way.0 (below state);
      good = omega (arith, ints, ap (weigh weight) way.1, weigh-none weight);
    };
  }

  pub start-within : AreEntriesWithin number 0 links entries
  start-within k d within =
      let one = are.sound (get_or entries k d) (Contains-get_or entries k d within) in
      record {
        code = one.3;
        low = omega (arith, ints, ap (λ b. b.value) one.4);
        high = omega (arith, ints, ap (λ b. b.value) one.4);
        marks = omega (arith, ap (λ b. b.marks) one.4);
        chain = ([], rw one.4 nothing);
      }

module _ {State : Type 0} {code_of : State → ℕ} {device : Device} {machine : Machine State}
    {weight : Weight} {old links : List Link} {pieces : List Piece} where
  -- with more links
  pub paths-kept : {entries : List (ℕ × Best)} → KeepChains old links
      → IsPaths code_of device machine weight old pieces entries
      → IsPaths code_of device machine weight links pieces entries
  paths-kept keep are = record {
    sound = λ entry has.
        (let path = are.sound entry has in
        let chain : Denotes links entry.1.chain (own_marks device pieces path.choices) =
        keep entry.1.chain _ path.chain in
        search (chain, path));
    whole = are.whole;
  }

module _ {State : Type 0} {number row : ℕ} {code_of : State → ℕ} {device : Device}
    {machine : Machine State} {weight : Weight} {old links : List Link} {pieces : List Piece}
    {act : Act} {from entries : List (ℕ × Best)}
    (are : IsPaths code_of device machine weight old pieces from)
    (led : AreLed number (CanStand act) code_of (machine.Step (acts_of pieces) act) weight row old
    links from entries) where
  -- each way through an act more goes on from one that an entry is as good as
  has-led : (state : State) (sums : Sums) (chosen : Choices (act ∷ acts_of pieces))
      → Follows machine (act ∷ acts_of pieces) chosen state sums
      → HasAsGood entries (code_of state) (weigh weight sums)
      (length (own_marks device pieces chosen.before) + length (marks_at row chosen.choice))
  has-led state sums chosen way =
      let has = are.whole way.before way.sums_before chosen.before way.way in
      let good = as_good-more (weight_of weight way.gains) (length (marks_at row chosen.choice))
      has.good in
      has-weaker (omega (
        arith,
        ints,
        good,
        weigh-adds weight way.sums_before way.gains,
        ap (weigh weight) way.adds,
      )) (led.whole (code_of way.before, has.best) has.listed chosen.choice chosen.stands
      (code_of state) way.gains (record {
        before = way.before;
        after = state;
        starts = refl;
        ends = refl;
        step = way.step;
      }))

  -- so they are the ways through an act more, in which the device has a part
  pub paths-led : (events : List Event)
      → ((one other : State) → code_of one ≡ code_of other → one ≡ other)
      → has_part device act ≡ true → row ≡ length (events_of pieces ++ events)
      → IsPaths code_of device machine weight links (Whole act events ∷ pieces) entries
  paths-led events apart has at = record {
    sound = λ entry in'.
        (let by = led.sound entry in' in
        let path = are.sound by.0 by.1 in
        let goes = by.2 in
        let step = goes.step in
        let chosen : Choices (act ∷ acts_of pieces) =
        record { choice = goes.choice; stands = goes.can; before = path.choices } in
        record {
          state = step.after;
          is = step.ends;
          sums = added path.sums goes.gains;
          choices = chosen;
          way = record {
            before = path.state;
            sums_before = path.sums;
            gains = goes.gains;
            way = path.way;
            step = rw (apart step.before path.state (step.starts ∙ sym path.is)) at step.step;
            adds = refl;
          };
          value = omega (arith, ints, weigh-adds weight path.sums goes.gains);
          chain = rw (has, ← at) (goes.goes.chain _ path.chain);
          marks = rw (has, ← at, length-append) (omega arith);
        });
    whole = λ state sums chosen way.
        rw (has, ← at, length-append) (has-led state sums chosen way);
  }

  -- where there is no entry, no way leads over the act
  pub no-way : entries ≡ []
      → (chosen : Choices (act ∷ acts_of pieces)) (state : State) (sums : Sums)
      → Follows machine (act ∷ acts_of pieces) chosen state sums → ⊥
  no-way none chosen state sums way =
      let has = has-led state sums chosen way in
      contains-none (code_of state, has.best)
      (subst (λ es. Contains es (code_of state, has.best)) none has.listed)

-- through an act that leaves the state of each entry and the sums

-- such an act adds nothing to what the sums count
weigh-same : (weight : Weight) (sums : Sums) (gains : Gains) → gains ≡ no_gains
    → weigh weight (added sums gains) ≡ weigh weight sums
weigh-same weight sums gains same =
    let none = weight-none weight in
    omega (arith, ints, weigh-adds weight sums gains, ap (weight_of weight) same)

no-more : (b : Bool) (own : List (ℕ × Mark)) → own ++ (if b then [] else []) ≡ own
no-more true own = append-nil own
no-more false own = append-nil own

-- one entry more rests
pub rests-more : {State : Type 0} (code_of : State → ℕ) (machine : Machine State) (act : Act)
    (entries : List (ℕ × Best)) (i : ℕ) (d : ℕ × Best) (state : State) → i < length entries
    → ((one other : State) → code_of one ≡ code_of other → one ≡ other)
    → code_of state ≡ (get_or entries i d).0
    → ((acts : List Act) (choice : Choice) (after : State) (gains : Gains)
    → machine.Step acts act choice state after gains ↔ Stays state after gains)
    → AllRest code_of machine act (take i entries)
    → AllRest code_of machine act (take (i + 1) entries)
rests-more code_of machine act entries i d state within apart is here before =
    let Rests : ℕ × Best → Type 0 = λ entry. RestsAt code_of machine act entry.0 in
    let one : Rests (get_or entries i d) = λ acts choice other after gains same.
    rw (apart state other (is ∙ sym same)) at (here acts choice after gains) in
    rw (take_more entries i d within)
    (All-append Rests (take i entries) (get_or entries i d ∷ []) before
    (All-cons Rests _ [] one (All-nil Rests)))

module _ {State : Type 0} {code_of : State → ℕ} {device : Device} {machine : Machine State}
    {weight : Weight} {links : List Link} {pieces : List Piece} {entries : List (ℕ × Best)} where
  pub paths-still : (act : Act) (events : List Event) → AllRest code_of machine act entries
      → IsPaths code_of device machine weight links pieces entries
      → IsPaths code_of device machine weight links (Whole act events ∷ pieces) entries
  paths-still act events rest are =
      let rests = λ (entry : ℕ × Best). All-contains
      (λ (e : ℕ × Best). RestsAt code_of machine act e.0) entries entry rest in
      record {
        sound = λ entry has.
            (let path = are.sound entry has in
            let chosen : Choices (act ∷ acts_of pieces) =
            record { choice = Plain; stands = tt; before = path.choices } in
            let own : own_marks device (Whole act events ∷ pieces) chosen
            ≡ own_marks device pieces path.choices =
            no-more (has_part device act) (own_marks device pieces path.choices) in
            record {
              state = path.state;
              is = path.is;
              sums = added path.sums no_gains;
              choices = chosen;
              way = record {
                before = path.state;
                sums_before = path.sums;
                gains = no_gains;
                way = path.way;
                step = (rests entry has (acts_of pieces) Plain path.state path.state no_gains
                    path.is).1 (refl, refl);
                adds = refl;
              };
              value = path.value ∙ sym (weigh-same weight path.sums no_gains refl);
              chain = rw own path.chain;
              marks = rw own path.marks;
            });
        whole = λ state sums chosen way.
            (let had = are.whole way.before way.sums_before chosen.before way.way in
            let same = (rests (code_of way.before, had.best) had.listed (acts_of pieces)
            chosen.choice way.before state way.gains refl).0 way.step in
            rw same.0 (has-weaker (omega (
              arith,
              ints,
              length-append {A = ℕ × Mark},
              ap (weigh weight) way.adds,
              weigh-same weight way.sums_before way.gains same.1,
            )) had));
      }

-- with more links, and farther from 0, an entry is within what it was
pub entry-within-kept : {number limit more : ℕ} {old new : List Link} {entry : ℕ × Best}
    → limit ≤ more → KeepChains old new → IsEntryWithin number limit old entry
    → IsEntryWithin number more new entry
entry-within-kept le keep is = record {
  code = is.code;
  low = omega (arith, ints);
  high = omega (arith, ints);
  marks = omega arith;
  chain = (is.chain.0, keep _ _ is.chain.1);
}

pub entries-within-kept : {number limit more : ℕ} {old new : List Link}
    (entries : List (ℕ × Best)) → limit ≤ more → KeepChains old new
    → AreEntriesWithin number limit old entries → AreEntriesWithin number more new entries
entries-within-kept entries le keep all k d within =
    entry-within-kept le keep (all k d within)

-- an entry that a step leads to is little farther from 0
pub all-led-within : {State : Type 0} {number limit : ℕ} {Can : Choice → Type 0}
    {code_of : State → ℕ} {Step : Choice → State → State → Gains → Type 0} {weight : Weight}
    {row : ℕ} {old new : List Link} {from entries : List (ℕ × Best)}
    → AreLed number Can code_of Step weight row old new from entries
    → AreEntriesWithin number limit old from
    → AreEntriesWithin number (limit + 2 ^ 32) new entries
all-led-within {number = number} {limit} {weight = weight} {row} {old} {from = from} {entries} all
    within k d inside =
    let by = all.sound (get_or entries k d) (Contains-get_or entries k d inside) in
    let led = by.2 in
    let is = All-contains (IsEntryWithin number limit old) from by.0 within by.1 in
    record {
      code = led.below;
      low = omega (arith, ints, weight-near weight led.gains led.small);
      high = omega (arith, ints, weight-near weight led.gains led.small);
      marks = omega (arith, marks-few row led.choice);
      chain = (_, led.goes.chain _ is.chain.1);
    }
