-- Ranges of sums of one kind and another, and of sums that a step added to.
use Rattle.mdb_follow.proofs.Words.{◌≡◌, ◌⊎◌, inl, inr, ℕ, ◌+◌, ◌≤◌, ◌^◌, refl, sym, ◌∙◌, ap, arith, ℤ, pos, ◌+ℤ◌, ◌-ℤ◌, ints, clamps, Gains, IsSmall, Range, Account, Cell, at_slot, small_at, joined_cell, IsCell, moved_cell, IsCellWithin, IsRange, no_account, IsAccount, AccountSums, Sums, added, no_range, joined_range, joined_slot, moved_range, moved_slot}
use Rattle.std.specs.Int.{int_max, int_min}

-- sums of a kind, with the gains of a step
pub record Moved (Kind : Sums → Type 0) (gains : Gains) (sums : Sums) : Type 0 where
  pub before : Sums
  pub kind : Kind before
  pub adds : sums ≡ added before gains

-- Each of one kind has one of the other, of which an account is the same.
abbrev pub Covers : {S T : Type 0} → (S → Type 0) → (S → AccountSums) → (T → Type 0)
    → (T → AccountSums) → Type 0
Covers {S} {T} Kind account Other its =
    (sums : S) → Kind sums → (other : T) × Other other × (account sums ≡ its other)

-- so a range of the one is a range of the other
module _ {S T : Type 0} (Kind : S → Type 0) (account : S → AccountSums) (Other : T → Type 0)
    (its : T → AccountSums) (to : Covers Kind account Other its)
    (from : Covers Other its Kind account) where
  range-moves : (value : AccountSums → ℤ) (range : Range)
      → IsRange Kind (λ sums. value (account sums)) range
      → IsRange Other (λ sums. value (its sums)) range
  range-moves value range is =
      let least = to is.least.0 is.least.1 in
      let greatest = to is.greatest.0 is.greatest.1 in
      record {
        least = (least.0, least.1, ap value (sym least.2) ∙ is.least.2);
        greatest = (greatest.0, greatest.1, ap value (sym greatest.2) ∙ is.greatest.2);
        low = λ sums kind. let back = from sums kind in rw back.2 (is.low back.0 back.1);
        high = λ sums kind. let back = from sums kind in rw back.2 (is.high back.0 back.1);
      }

  pub account-moves : (ranges : Account) → IsAccount Kind account ranges
      → IsAccount Other its ranges
  account-moves ranges is = record {
    device = range-moves (λ a. pos a.device) _ is.device;
    controller = range-moves (λ a. pos a.controller) _ is.controller;
    difference = range-moves (λ a. pos a.device -ℤ pos a.controller) _ is.difference;
  }

-- the same kind in other words
pub cell-same : (K L : Sums → Type 0) (cell : Cell)
    → ((sums : Sums) → K sums → L sums) → ((sums : Sums) → L sums → K sums)
    → IsCell K cell → IsCell L cell
cell-same K L cell there back is slot below =
    account-moves K (λ sums. sums slot) L (λ sums. sums slot) (λ sums k. (sums, there sums k, refl))
    (λ sums l. (sums, back sums l, refl)) _ (is slot below)

-- Where there are sums of a kind, and an account is nothing in all, nothing are its ranges.
pub account-none : {S : Type 0} (Kind : S → Type 0) (account : S → AccountSums) (some : S)
    → Kind some
    → ((sums : S) → Kind sums → account sums ≡ record { device = 0; controller = 0 })
    → IsAccount Kind account no_account
account-none {S} Kind account some kind nothing =
    let range : (value : AccountSums → ℤ) → value (record { device = 0; controller = 0 }) ≡ pos 0
    → IsRange Kind (λ sums. value (account sums)) no_range = λ value zero_is. record {
      least = (some, kind, ap value (nothing some kind) ∙ zero_is);
      greatest = (some, kind, ap value (nothing some kind) ∙ zero_is);
      low = λ sums its. rw (nothing sums its, zero_is) (omega (arith, ints));
      high = λ sums its. rw (nothing sums its, zero_is) (omega (arith, ints));
    } in
    record {
      device = range (λ a. pos a.device) refl;
      controller = range (λ a. pos a.controller) refl;
      difference = range (λ a. pos a.device -ℤ pos a.controller) refl;
    }

min-cases : (a b : ℤ) → (int_min a b ≡ a) ⊎ (int_min a b ≡ b)
min-cases a b = search (arith, ints, clamps)

max-cases : (a b : ℤ) → (int_max a b ≡ a) ⊎ (int_max a b ≡ b)
max-cases a b = search (arith, ints, clamps)

module _ (K L : Sums → Type 0) where
  range-joined : (value : Sums → ℤ) (one other : Range) → IsRange K value one
      → IsRange L value other → IsRange (λ sums. K sums ⊎ L sums) value (joined_range one other)
  range-joined value one other is so = record {
    least = elim (min-cases one.least other.least) [
      | inl e ↦ (is.least.0, inl is.least.1, is.least.2 ∙ sym e)
      | inr e ↦ (so.least.0, inr so.least.1, so.least.2 ∙ sym e)
    ];
    greatest = elim (max-cases one.greatest other.greatest) [
      | inl e ↦ (is.greatest.0, inl is.greatest.1, is.greatest.2 ∙ sym e)
      | inr e ↦ (so.greatest.0, inr so.greatest.1, so.greatest.2 ∙ sym e)
    ];
    low = λ sums either. let k = is.low sums in let l = so.low sums in search (arith, ints, clamps);
    high = λ sums either.
        let k = is.high sums in let l = so.high sums in search (arith, ints, clamps);
  }

  pub cell-joined : (one other : Cell) → IsCell K one → IsCell L other
      → IsCell (λ sums. K sums ⊎ L sums) (joined_cell one other)
  unfolding joined_cell
  cell-joined one other is so slot below =
      let one_is = is slot below in
      let other_is = so slot below in
      rw (at_slot (joined_slot one other) slot no_account below) (record {
        device = range-joined _ _ _ one_is.device other_is.device;
        controller = range-joined _ _ _ one_is.controller other_is.controller;
        difference = range-joined _ _ _ one_is.difference other_is.difference;
      })

range-moved : (K : Sums → Type 0) (gains : Gains) (value : Sums → ℤ) (range : Range) (by : ℤ)
    → ((sums : Sums) → value (added sums gains) ≡ value sums +ℤ by)
    → IsRange K value range → IsRange (Moved K gains) value (moved_range range by)
range-moved K gains value range by adds is =
    let end : (z : ℤ) → (sums : Sums) × K sums × (value sums ≡ z)
    → (sums : Sums) × Moved K gains sums × (value sums ≡ z +ℤ by) = λ z e. (
      added e.0 gains,
      record { before = e.0; kind = e.1; adds = refl },
      adds e.0 ∙ ap (λ v. v +ℤ by) e.2,
    ) in
    record {
      least = end range.least is.least;
      greatest = end range.greatest is.greatest;
      low = λ sums m. (let f = is.low m.before m.kind in
          let e = ap value m.adds ∙ adds m.before in omega (arith, ints));
      high = λ sums m. (let f = is.high m.before m.kind in
          let e = ap value m.adds ∙ adds m.before in omega (arith, ints));
    }

pub cell-moved : (K : Sums → Type 0) (cell : Cell) (gains : Gains) → IsCell K cell
    → IsCell (Moved K gains) (moved_cell cell gains)
unfolding moved_cell
cell-moved K cell gains is slot below =
    let its = is slot below in
    rw (at_slot (moved_slot cell gains) slot no_account below) (record {
      device = range-moved K gains _ _ _ (λ sums. refl) its.device;
      controller = range-moved K gains _ _ _ (λ sums. refl) its.controller;
      difference = range-moved K gains _ _ _ (λ sums. omega (arith, ints)) its.difference;
    })

-- limits

pub cell-within-weaker : (limit more : ℕ) (cell : Cell) → limit ≤ more
    → IsCellWithin limit cell → IsCellWithin more cell
cell-within-weaker limit more cell le is slot below =
    let its = is slot below in search (arith, ints)

pub cell-joined-within : (limit : ℕ) (one other : Cell) → IsCellWithin limit one
    → IsCellWithin limit other → IsCellWithin limit (joined_cell one other)
unfolding joined_cell
cell-joined-within limit one other is so slot below =
    let one_is = is slot below in
    let other_is = so slot below in
    rw (at_slot (joined_slot one other) slot no_account below) (search (arith, ints, clamps))

pub cell-moved-within : (limit : ℕ) (cell : Cell) (gains : Gains) → IsCellWithin limit cell
    → IsSmall gains → IsCellWithin (limit + 2 ^ 32) (moved_cell cell gains)
unfolding moved_cell
cell-moved-within limit cell gains is small slot below =
    let its = is slot below in
    let device = small_at gains.device slot small.device in
    let controller = small_at gains.controller slot small.controller in
    rw (at_slot (moved_slot cell gains) slot no_account below) (search (arith, ints))
