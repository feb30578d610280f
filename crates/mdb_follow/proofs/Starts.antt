-- The entries after no act: one for each state in which a machine may start.
use Rattle.mdb_follow.proofs.Words.{◌≡◌, inl, inr, ℕ, ◌+◌, ◌<◌, ◌≤◌, ◌++◌, ◌∙◌, ap, arith, length, get_or, refl, subst, List, [], ◌∷◌, Contains, ints, All-push, Contains-append_left, Contains-push, Contains-push_cases, SLOTS, by_slot, Machine, at_slot, Cell, Arrives, no_account, IsCell, slot_account, Sums, no_sums, ArrivesAt, IsTable, AreBelow, IsCellWithin, IsRangeWithin, IsTableWithin, cases_lt, no_range}
use Rattle.std.proofs.Common.{length-append}
use Rattle.mdb_follow.proofs.Ends.{account-none}

-- a cell is of no sums
abbrev pub IsNothing : Cell → Type 0
IsNothing cell = cell.accounts ≡ by_slot (λ slot. no_account)

-- so is each of its accounts
no-account : (cell : Cell) → IsNothing cell → (slot : ℕ) → slot < SLOTS
    → slot_account cell slot ≡ no_account
no-account cell is slot below =
    ap (λ accounts. get_or accounts slot no_account) is
    ∙ at_slot (λ slot. no_account) slot no_account below

nothing-range : IsRangeWithin 0 no_range
nothing-range = search (arith, ints)

pub nothing-within : (cell : Cell) → IsNothing cell → IsCellWithin 0 cell
nothing-within cell is slot below = rw (no-account cell is slot below) (record {
  device = nothing-range;
  controller = nothing-range;
  difference = nothing-range;
})

-- where all sums of a kind are nothing, they are those of that cell
pub nothing-is : (Kind : Sums → Type 0) (cell : Cell) → IsNothing cell → Kind no_sums
    → ((sums : Sums) → Kind sums → sums ≡ no_sums) → IsCell Kind cell
nothing-is Kind cell is none only slot below = rw (no-account cell is slot below)
    (account-none Kind (λ sums. sums slot) no_sums none
    (λ sums kind. ap (λ (s : Sums). s slot) (only sums kind)))

module _ {State : Type 0} (number : ℕ) (code_of : State → ℕ) (machine : Machine State)
    (cell : Cell) where
  -- an entry is of a state in which the machine may start, with this cell
  pub record IsStart (code : ℕ) (found : Cell) : Type 0 where
    pub state : State
    pub is : code_of state ≡ code
    pub starts : machine.Starts state
    pub same : found ≡ cell

  -- The entries so far: those of the states with codes below a number.
  pub record AreStarts (code : ℕ) (entries : List (ℕ × Cell)) : Type 0 where
    pub few : length entries ≤ code
    pub below : AreBelow number entries
    pub within : IsTableWithin 0 entries
    pub sound : (at : ℕ) (found : Cell) → Contains entries (at, found) → IsStart at found
    pub whole : (state : State) → machine.Starts state → code_of state < code
        → Contains entries (code_of state, cell)

  -- the machine may start in the state of one code more
  pub more-starts : (code : ℕ) (before after : List (ℕ × Cell)) (state : State) → code < number
      → code_of state ≡ code → machine.Starts state → IsNothing cell
      → after ≡ before ++ (code, cell) ∷ []
      → AreStarts code before → AreStarts (code + 1) after
  more-starts code before after state low is starts nothing made old =
      let entry : ℕ × Cell = (code, cell) in
      let few = old.few in
      rw made (record {
        few = omega (arith, few, length-append before (entry ∷ []));
        below = All-push (λ (e : ℕ × Cell). e.0 < number) before entry old.below low;
        within = All-push (λ (e : ℕ × Cell). IsCellWithin 0 e.1) before entry old.within
            (nothing-within cell nothing);
        sound = λ at found has. elim (Contains-push_cases before entry (at, found) has) [
          | inl earlier ↦ old.sound at found earlier
          | inr same ↦ subst (λ (e : ℕ × Cell). IsStart e.0 e.1) same
              (record { state = state; is = is; starts = starts; same = refl })
        ];
        whole = λ other other_starts less. elim (cases_lt (code_of other) code) [
          | inl earlier ↦ Contains-append_left before (entry ∷ []) (code_of other, cell)
              (old.whole other other_starts earlier)
          | inr high ↦ (let same : code_of other ≡ code = omega arith in
              rw same (Contains-push before entry))
        ];
      })

  -- and it may not
  pub same-starts : (code : ℕ) (entries : List (ℕ × Cell)) (state : State)
      → ((one other : State) → code_of one ≡ code_of other → one ≡ other) → code_of state ≡ code
      → (machine.Starts state → ⊥) → AreStarts code entries → AreStarts (code + 1) entries
  same-starts code entries state apart is not old =
      let few = old.few in
      record {
        few = omega (arith, few);
        below = old.below;
        within = old.within;
        sound = old.sound;
        whole = λ other starts less. elim (cases_lt (code_of other) code) [
          | inl earlier ↦ old.whole other starts earlier
          | inr high ↦ (let same : code_of other ≡ code_of state = omega arith in
              absurd (not (rw (apart other state same) at starts)))
        ];
      }

  -- The entries of all states are the table after no act.
  pub table-starts : (entries : List (ℕ × Cell)) → IsNothing cell
      → ((state : State) → code_of state < number) → (state : State) × machine.Starts state
      → AreStarts number entries → IsTable code_of machine [] entries
  table-starts entries nothing low some all = record {
    some = (some.0, no_sums, (some.1, refl));
    bounds = record {
      exact = λ code found has.
          let start = all.sound code found has in
          rw start.same (nothing-is (ArrivesAt code_of (Arrives machine []) code) cell nothing
          (record { state = start.state; is = start.is; way = (start.starts, refl) })
          (λ sums comes. comes.way.1));
      whole = λ code sums comes. (
        cell,
        subst (λ (c : ℕ). Contains entries (c, cell)) comes.is
            (all.whole comes.state comes.way.0 (low comes.state)),
      );
    };
  }
