-- Ways through one act more.
use Rattle.mdb_follow.proofs.Words.{AreApart, arith, ◌<◌, ◌+◌, ◌^◌, length, take, ◌≡◌, ◌⊎◌, inl, inr, ℕ, refl, sym, ◌∙◌, ap, subst, add-zero, List, [], ◌∷◌, Contains, slice_index_or, ◌↔◌, Act, Choice, Plain, Gains, no_gains, IsMove, Machine, none_at, Cell, Arrives, joined_cell, IsCell, AccountSums, Sums, added, ArrivesAnywhere, ArrivesAt, Bounds, IsTable, take_more, All-contains, AllRest, IsKeyed, IsPlaced, RestsAt, joined_cells, IsTableWithin, Beginning, All-push}
use Rattle.std.proofs.Math.Path.{fun_ext}
use Rattle.mdb_follow.proofs.Ends.{cell-joined, cell-same}
use Rattle.mdb_follow.proofs.Led.{Led, from_entry}
use Rattle.mdb_follow.proofs.Listed.{AreFound, bounds-found, found-same, contains-cases, contains-here, contains-none, contains-there}

-- no gains add nothing
pub no-gains : (sums : Sums) → sums ≡ added sums no_gains
no-gains sums = fun_ext (λ slot.
    let with : ℕ → AccountSums = λ n. record {
      device = (sums slot).device + n;
      controller = (sums slot).controller + n;
    } in
    let same : sums slot ≡ with 0 = simp add-zero in
    same ∙ ap with (sym (none_at slot)))

-- The entries so far: what the steps from so many of those before an act lead to.
pub record LedSoFar {State : Type 0} (number : ℕ) (code_of : State → ℕ)
    (machine : Beginning → Machine State) (Known : Beginning → List Act → Type 0) (act : Act)
    (from : List (ℕ × Cell)) (count : ℕ) (into : List (ℕ × Cell)) (places : List ℕ)
    : Type 0 where
  pub keyed : IsKeyed number into
  pub placed : IsPlaced into places
  pub led : (begins : Beginning) (acts : List Act) → Known begins acts
      → IsTable code_of (machine begins) acts from
      → AreFound (Led (ArrivesAt code_of (Arrives (machine begins) acts))
      (IsMove act code_of ((machine begins).Step acts act)) (take count from)) into
  pub within : (limit : ℕ) → IsTableWithin limit from → IsTableWithin (limit + 2 ^ 32) into

module _ {State : Type 0} (code_of : State → ℕ) (machine : Machine State) where
  arrives-at : (acts : List Act) (state : State) (sums : Sums) → Arrives machine acts state sums
      → ArrivesAt code_of (Arrives machine acts) (code_of state) sums
  arrives-at acts state sums way = record { state = state; is = refl; way = way }

  -- The steps from the entries of a table lead to what arrives after one act more.
  pub table-led : (act : Act) (acts : List Act) (from into : List (ℕ × Cell))
      → ((one other : State) → code_of one ≡ code_of other → one ≡ other)
      → IsTable code_of machine acts from → AreApart into
      → AreFound (Led (ArrivesAt code_of (Arrives machine acts))
      (IsMove act code_of (machine.Step acts act)) from) into
      → Bounds (ArrivesAt code_of (Arrives machine (act ∷ acts))) into
  table-led act acts from into apart table keyed led =
      bounds-found _ into keyed (found-same _ _ into (λ code sums. (
        λ l. elim l [
          | from_entry entry listed gains move moved ↦
              let step = move.2 in
              record {
                state = step.after;
                is = step.ends;
                way = record {
                  choice = move.0;
                  stands = move.1;
                  before = step.before;
                  sums_before = moved.before;
                  gains = gains;
                  way = rw (apart step.before moved.kind.state (step.starts ∙ sym moved.kind.is))
                      moved.kind.way;
                  step = step.step;
                  adds = moved.adds;
                };
              }
        ],
        λ a.
            let way = a.way in
            let at = arrives-at acts way.before way.sums_before way.way in
            let there = table.bounds.whole (code_of way.before) way.sums_before at in
            from_entry (code_of way.before, there.0) there.1 way.gains (
              way.choice,
              way.stands,
              record {
                before = way.before;
                after = a.state;
                starts = refl;
                ends = a.is;
                step = way.step;
              },
            ) (record { before = way.sums_before; kind = at; adds = way.adds }),
      )) led)

  -- An act that changes nothing wherever a way leads leaves what arrives.
  table-still : (act : Act) (acts : List Act) (entries : List (ℕ × Cell))
      → ((before : State) (sums : Sums) → Arrives machine acts before sums → (choice : Choice)
      (after : State) (gains : Gains)
      → machine.Step acts act choice before after gains ↔ (after ≡ before) × (gains ≡ no_gains))
      → IsTable code_of machine acts entries → IsTable code_of machine (act ∷ acts) entries
  table-still act acts entries steps table =
      let on : (state : State) (sums : Sums) → Arrives machine acts state sums
      → Arrives machine (act ∷ acts) state sums = λ state sums way. record {
        choice = Plain;
        stands = tt;
        before = state;
        sums_before = sums;
        gains = no_gains;
        way = way;
        step = (steps state sums way Plain state no_gains).1 (refl, refl);
        adds = no-gains sums;
      } in
      let back : (code : ℕ) (sums : Sums)
      → ArrivesAt code_of (Arrives machine (act ∷ acts)) code sums
      → ArrivesAt code_of (Arrives machine acts) code sums = λ code sums a.
      let way = a.way in
      let s = (steps way.before way.sums_before way.way way.choice a.state way.gains).0 way.step in
      let same : sums ≡ way.sums_before = way.adds ∙ ap (added way.sums_before) s.1
      ∙ sym (no-gains way.sums_before) in
      record {
        state = a.state;
        is = a.is;
        way = subst (λ sums. Arrives machine acts a.state sums) (sym same) (rw s.0 way.way);
      } in
      record {
        some = (table.some.0, table.some.1, on table.some.0 table.some.1 table.some.2);
        bounds = record {
          exact = λ code cell has. cell-same _ _ cell
              (λ sums a. record { state = a.state; is = a.is; way = on a.state sums a.way })
              (back code) (table.bounds.exact code cell has);
          whole = λ code sums a. table.bounds.whole code sums (back code sums a);
        };
      }

  -- An act that is no matter of the pair is one.
  pub table-same : (act : Act) (acts : List Act) (entries : List (ℕ × Cell))
      → ((acts : List Act) (choice : Choice) (before after : State) (gains : Gains)
      → machine.Step acts act choice before after gains ↔ (after ≡ before) × (gains ≡ no_gains))
      → IsTable code_of machine acts entries → IsTable code_of machine (act ∷ acts) entries
  table-same act acts entries steps =
      table-still act acts entries (λ before sums way choice. steps acts choice before)

  -- So is an act that leaves the states of all entries.
  pub table-rests : (act : Act) (acts : List Act) (entries : List (ℕ × Cell))
      → AllRest code_of machine act entries
      → IsTable code_of machine acts entries → IsTable code_of machine (act ∷ acts) entries
  table-rests act acts entries rests table =
      table-still act acts entries (λ before sums way choice after gains.
      let there = table.bounds.whole (code_of before) sums (arrives-at acts before sums way) in
      All-contains (λ (entry : ℕ × Cell). RestsAt code_of machine act entry.0) entries
      (code_of before, there.0) rests there.1 acts choice before after gains refl)
      table

  -- One entry more rests.
  pub rests-more : (act : Act) (entries : List (ℕ × Cell)) (i : ℕ) (d : ℕ × Cell) (state : State)
      → i < length entries → ((one other : State) → code_of one ≡ code_of other → one ≡ other)
      → code_of state ≡ (slice_index_or entries i d).0
      → ((acts : List Act) (choice : Choice) (after : State) (gains : Gains)
      → machine.Step acts act choice state after gains ↔ (after ≡ state) × (gains ≡ no_gains))
      → AllRest code_of machine act (take i entries)
      → AllRest code_of machine act (take (i + 1) entries)
  rests-more act entries i d state within apart is here before =
      rw (take_more entries i d within)
      (All-push (λ (entry : ℕ × Cell). RestsAt code_of machine act entry.0) (take i entries) _
      before (λ acts choice other after gains same.
      rw (apart other state (same ∙ sym is)) (here acts choice after gains)))

  -- Where there is no entry, nothing arrives.
  pub nothing-arrives : (acts : List Act) (entries : List (ℕ × Cell))
      → Bounds (ArrivesAt code_of (Arrives machine acts)) entries → entries ≡ []
      → (state : State) (sums : Sums) → Arrives machine acts state sums → ⊥
  nothing-arrives acts entries bounds none state sums way =
      let empty = rw none at bounds in
      contains-none _ (empty.whole (code_of state) sums (arrives-at acts state sums way)).1

  -- Where there is an entry, something arrives.
  pub table-some : (acts : List Act) (entries : List (ℕ × Cell))
      → Bounds (ArrivesAt code_of (Arrives machine acts)) entries → (entries ≡ [] → ⊥)
      → IsTable code_of machine acts entries
  table-some acts [] bounds some = absurd (some refl)
  table-some acts (entry ∷ rest) bounds some =
      let cell = bounds.exact entry.0 entry.1 (contains-here entry rest entry refl) in
      let least = (cell 0 (omega arith)).device.least in
      record { some = (least.1.state, least.0, least.1.way); bounds = bounds }

-- some entry's code comes with these sums
abbrev SomeOf : (ℕ → Sums → Type 0) → List (ℕ × Cell) → Sums → Type 0
SomeOf Comes entries sums = (entry : ℕ × Cell) × Contains entries entry × Comes entry.0 sums

cells-joined : (Comes : ℕ → Sums → Type 0) (entries : List (ℕ × Cell)) (Kind : Sums → Type 0)
    (cell : Cell) → IsCell Kind cell
    → ((entry : ℕ × Cell) → Contains entries entry → IsCell (Comes entry.0) entry.1)
    → IsCell (λ sums. Kind sums ⊎ SomeOf Comes entries sums) (joined_cells cell entries)
cells-joined Comes [] Kind cell is exact =
    cell-same Kind _ cell (λ sums. inl)
    (λ sums either. elim either [ inl k ↦ k | inr s ↦ absurd (contains-none s.0 s.1) ]) is
cells-joined Comes (entry ∷ entries) Kind cell is exact =
    cell-same (λ sums. (Kind sums ⊎ Comes entry.0 sums) ⊎ SomeOf Comes entries sums) _
    (joined_cells (joined_cell cell entry.1) entries)
    (λ sums either. elim either [
      | inl (inl k) ↦ inl k
      | inl (inr c) ↦ inr (entry, contains-here entry entries entry refl, c)
      | inr s ↦ inr (s.0, contains-there entry entries s.0 s.1, s.2)
    ])
    (λ sums either. elim either [
      | inl k ↦ inl (inl k)
      | inr s ↦ elim (contains-cases entry entries s.0 s.1) [
        | inl same ↦ inl (inr (rw same s.2))
        | inr rest ↦ inr (s.0, rest, s.2)
      ]
    ])
    (cells-joined Comes entries (λ sums. Kind sums ⊎ Comes entry.0 sums)
    (joined_cell cell entry.1)
    (cell-joined Kind (Comes entry.0) cell entry.1 is
    (exact entry (contains-here entry entries entry refl)))
    (λ other in'. exact other (contains-there entry entries other in')))

-- The join of all entries of a table has what arrives anywhere.
pub table-joined : {State : Type 0} (code_of : State → ℕ)
    (machine : Machine State)
    (acts : List Act) (entries : List (ℕ × Cell)) (result : Cell)
    → ((entry : ℕ × Cell) (rest : List (ℕ × Cell)) → entries ≡ entry ∷ rest
    → result ≡ joined_cells entry.1 rest)
    → IsTable code_of machine acts entries
    → IsCell (ArrivesAnywhere (Arrives machine acts)) result
table-joined code_of machine acts [] result joins table =
    absurd (nothing-arrives code_of machine acts [] table.bounds refl table.some.0
    table.some.1 table.some.2)
table-joined code_of machine acts (entry ∷ rest) result joins table =
    let At : ℕ → Sums → Type 0 = ArrivesAt code_of (Arrives machine acts) in
    let exact = λ (one : ℕ × Cell) (in' : Contains (entry ∷ rest) one).
    table.bounds.exact one.0 one.1 in' in
    rw (joins entry rest refl)
    (cell-same (λ sums. At entry.0 sums ⊎ SomeOf At rest sums) _ (joined_cells entry.1 rest)
    (λ sums either. elim either [
      | inl a ↦ record { state = a.state; way = a.way }
      | inr s ↦ (let a = s.2 in record { state = a.state; way = a.way })
    ])
    (λ sums a.
    let at = arrives-at code_of machine acts a.state sums a.way in
    let there = table.bounds.whole (code_of a.state) sums at in
    elim (contains-cases entry rest (code_of a.state, there.0) there.1) [
      | inl same ↦ inl (subst (λ (one : ℕ × Cell). At one.0 sums) (sym same) at)
      | inr has ↦ inr ((code_of a.state, there.0), has, at)
    ])
    (cells-joined At rest (At entry.0) entry.1
    (exact entry (contains-here entry rest entry refl))
    (λ one in'. exact one (contains-there entry rest one in'))))
