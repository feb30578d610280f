-- Lists, and the entries of a table as one: what a cell more makes of them.
use Rattle.mdb_follow.proofs.Words.{rules, Option, Some, None, none-some, ◌↔◌, ◌≡◌, ◌⊎◌, inl, inr, ℕ, zero, suc, ◌≤◌, ◌<◌, refl, sym, ◌∙◌, ap, arith, Bool, true, false, List, [], ◌∷◌, ◌++◌, length, get_or, take, eqb, map, length-map, Contains, All, slice_set, ◌==◌, if◌then◌else◌, AllByRecursion, All-cons, All-head, All-tail, false≢true, nat_tests, Cell, joined_cell, IsCell, IsCellWithin, IsTableWithin, Sums, Bounds, AreApart, AreBelow, IsKeyed, Lacks, with_cell, cases_eq, list_any}
use Rattle.std.specs.List.{IsDistinct}
use Rattle.std.proofs.lemmas.Map.Steps.{length-le_from_distinct_below}
use Rattle.mdb_follow.proofs.Ends.{cell-joined, cell-joined-within, cell-same}

pub contains-cases : {X : Type 0} (x : X) (xs : List X) (y : X) → Contains (x ∷ xs) y
    → (x ≡ y) ⊎ Contains xs y
contains-cases x xs y (k, within, is) = search arith

pub contains-here : {X : Type 0} (x : X) (xs : List X) (y : X) → x ≡ y → Contains (x ∷ xs) y
contains-here x xs y is = (0, omega arith, is)

pub contains-there : {X : Type 0} (x : X) (xs : List X) (y : X) → Contains xs y
    → Contains (x ∷ xs) y
contains-there x xs y (k, within, is) = (suc k, omega arith, is)

pub contains-none : {X : Type 0} (y : X) → Contains [] y → ⊥
contains-none y (k, within, is) = omega arith

-- an entry that isn't there
pub lacks-none : (entries : List (ℕ × Cell)) (code : ℕ) (cell : Cell) → Lacks entries code
    → Contains entries (code, cell) → ⊥
lacks-none [] code cell lacks has = contains-none (code, cell) has
lacks-none (entry ∷ entries) code cell lacks has =
    elim (contains-cases entry entries (code, cell) has) [
      | inl is ↦ lacks.0 (ap (λ e. e.0) is)
      | inr rest ↦ lacks-none entries code cell lacks.1 rest
    ]

-- the cell of a code, if there is one
abbrev pub find : List (ℕ × Cell) → ℕ → Option Cell
find [] at = None
find (entry ∷ entries) at = if entry.0 == at then Some entry.1 else find entries at

find-some : (entries : List (ℕ × Cell)) (at : ℕ) (cell : Cell) → find entries at ≡ Some cell
    → Contains entries (at, cell)
find-some [] at cell is = absurd (none-some cell is)
find-some (entry ∷ entries) at cell is =
    let here : entry.0 ≡ at → entry.1 ≡ cell → Contains (entry ∷ entries) (at, cell) =
    λ code its. contains-here entry entries (at, cell) (λ i. (code i, its i)) in
    let there = contains-there entry entries (at, cell) in
    let earlier = find-some entries at cell in
    grind (arith, nat_tests)

find-has : (entries : List (ℕ × Cell)) (at : ℕ) (cell : Cell) → AreApart entries
    → Contains entries (at, cell) → find entries at ≡ Some cell
find-has [] at cell apart has = absurd (contains-none (at, cell) has)
find-has (entry ∷ entries) at cell apart has =
    let earlier = find-has entries at cell apart.1 in
    let lacks = lacks-none entries entry.0 cell apart.0 in
    elim (contains-cases entry entries (at, cell) has) [
      | inl is ↦ grind (arith, nat_tests)
      | inr there ↦ grind (arith, nat_tests)
    ]

-- a cell has the exact ranges of a kind, and where there is no cell there is nothing of the kind
abbrev pub IsFound : (Sums → Type 0) → Option Cell → Type 0
IsFound Kind None = (sums : Sums) → Kind sums → ⊥
IsFound Kind (Some cell) = IsCell Kind cell

-- The cell of each code has the ranges of what comes with the code.
pub record AreFound (Comes : ℕ → Sums → Type 0) (entries : List (ℕ × Cell)) : Type 0 where
  pub each : (at : ℕ) → IsFound (Comes at) (find entries at)

-- the same kind in other words
found-alike : (K L : Sums → Type 0) (found : Option Cell) → ((sums : Sums) → K sums ↔ L sums)
    → IsFound K found → IsFound L found
found-alike K L None same none = λ sums l. none sums ((same sums).1 l)
found-alike K L (Some cell) same is =
    cell-same K L cell (λ sums. (same sums).0) (λ sums. (same sums).1) is

pub found-same : (K L : ℕ → Sums → Type 0) (entries : List (ℕ × Cell))
    → ((at : ℕ) (sums : Sums) → K at sums ↔ L at sums) → AreFound K entries → AreFound L entries
found-same K L entries same old = record {
  each = λ at. found-alike (K at) (L at) (find entries at) (same at) (old.each at);
}

-- so these are the bounds of a table
found-where : (Kind : Sums → Type 0) (entries : List (ℕ × Cell)) (at : ℕ) (found : Option Cell)
    → find entries at ≡ found → IsFound Kind found → (sums : Sums) → Kind sums
    → (cell : Cell) × Contains entries (at, cell)
found-where Kind entries at None is none sums kind = absurd (none sums kind)
found-where Kind entries at (Some cell) is its sums kind = (cell, find-some entries at cell is)

pub bounds-found : (Comes : ℕ → Sums → Type 0) (entries : List (ℕ × Cell)) → AreApart entries
    → AreFound Comes entries → Bounds Comes entries
bounds-found Comes entries apart found = record {
  exact = λ at cell has. rw (find-has entries at cell apart has) at (found.each at);
  whole = λ at. found-where (Comes at) entries at (find entries at) refl (found.each at);
}

-- A table with a cell more.
module _ (code : ℕ) (cell : Cell) where
  -- the cell of its code is joined to it, and each other one stays
  abbrev joined : Option Cell → Cell
  joined None = cell
  joined (Some had) = joined_cell had cell

  find-its : (entries : List (ℕ × Cell))
      → find (with_cell entries code cell) code ≡ Some (joined (find entries code))
  find-its [] = grind (arith, nat_tests)
  find-its (entry ∷ entries) = let earlier = find-its entries in grind (arith, nat_tests)

  find-other : (at : ℕ) → (code ≡ at → ⊥) → (entries : List (ℕ × Cell))
      → find (with_cell entries code cell) at ≡ find entries at
  find-other at other [] = grind (arith, nat_tests)
  find-other at other (entry ∷ entries) =
      let earlier = find-other at other entries in grind (arith, nat_tests)

  -- it has what comes with the one or the other
  joined-found : (K L : Sums → Type 0) (found : Option Cell) → IsFound K found → IsCell L cell
      → IsCell (λ sums. K sums ⊎ L sums) (joined found)
  joined-found K L None none is = cell-same L _ cell (λ sums. inr)
      (λ sums either. elim either [ inl k ↦ absurd (none sums k) | inr l ↦ l ]) is
  joined-found K L (Some had) old is = cell-joined K L had cell old is

  pub found-with_cell : (Comes : ℕ → Sums → Type 0) (Kind : Sums → Type 0)
      (entries : List (ℕ × Cell)) → AreFound Comes entries → IsCell Kind cell
      → AreFound (λ at sums. Comes at sums ⊎ ((at ≡ code) × Kind sums))
      (with_cell entries code cell)
  found-with_cell Comes Kind entries old is = record {
    each = λ at. elim (cases_eq code at) [
      | inl same ↦ rw (← same, find-its entries)
          (joined-found (Comes code) _ (find entries code) (old.each code)
          (cell-same Kind _ cell (λ sums k. (refl, k)) (λ sums k. k.1) is))
      | inr other ↦ rw (find-other at other entries)
          (found-alike (Comes at) _ (find entries at) (λ sums. (inl, search (rules, other)))
          (old.each at))
    ];
  }

  -- room
  lacks-with_cell : (entries : List (ℕ × Cell)) (at : ℕ) → (code ≡ at → ⊥) → Lacks entries at
      → Lacks (with_cell entries code cell) at
  lacks-with_cell [] at not lacks = (not, tt)
  lacks-with_cell (entry ∷ entries) at not lacks =
      let later = lacks-with_cell entries at not lacks.1 in grind (arith, nat_tests)

  pub apart-with_cell : (entries : List (ℕ × Cell)) → AreApart entries
      → AreApart (with_cell entries code cell)
  apart-with_cell [] apart = (tt, tt)
  apart-with_cell (entry ∷ entries) apart =
      let first = lacks-with_cell entries entry.0 in
      let later = apart-with_cell entries apart.1 in
      grind (arith, nat_tests)

  -- what holds of all entries, and of a cell joined to that of each and of the cell alone, holds
  -- with the cell
  all-with_cell : (P : ℕ × Cell → Type 0) (entries : List (ℕ × Cell)) → P (code, cell)
      → ((at : ℕ) (had : Cell) → P (at, had) → P (at, joined_cell had cell))
      → All P entries → All P (with_cell entries code cell)
  all-with_cell P [] one join all = All-cons P (code, cell) [] one all
  all-with_cell P (entry ∷ entries) one join all =
      let first = All-head P entry entries all in
      let rest = All-tail P entry entries all in
      grind (
        arith,
        nat_tests,
        All-cons P _ entries (join entry.0 entry.1 first) rest,
        All-cons P entry _ first (all-with_cell P entries one join rest),
      )

  pub keyed-with_cell : (number : ℕ) (entries : List (ℕ × Cell)) → code < number
      → IsKeyed number entries → IsKeyed number (with_cell entries code cell)
  keyed-with_cell number entries below keyed = record {
    apart = apart-with_cell entries keyed.apart;
    below = all-with_cell (λ entry. entry.0 < number) entries below (λ at had is. is) keyed.below;
  }

  pub within-with_cell : (limit : ℕ) (entries : List (ℕ × Cell)) → IsCellWithin limit cell
      → IsTableWithin limit entries → IsTableWithin limit (with_cell entries code cell)
  within-with_cell limit entries is all = all-with_cell (λ entry. IsCellWithin limit entry.1)
      entries is (λ at had had_is. cell-joined-within limit had cell had_is is) all

  -- as the loop makes it
  pub with_cell-push : (entries : List (ℕ × Cell)) → Lacks entries code
      → with_cell entries code cell ≡ entries ++ (code, cell) ∷ []
  with_cell-push [] lacks = refl
  with_cell-push (entry ∷ entries) lacks =
      let later = with_cell-push entries lacks.1 in grind (arith, nat_tests)

  pub with_cell-set : (entries : List (ℕ × Cell)) (i : ℕ) (d : ℕ × Cell) → i < length entries
      → Lacks (take i entries) code → (get_or entries i d).0 ≡ code
      → slice_set entries i (code, joined_cell (get_or entries i d).1 cell)
      ≡ with_cell entries code cell
  with_cell-set [] i d within lacks at_code = absurd (omega arith)
  with_cell-set (first ∷ entries) zero d within lacks at_code = grind (arith, nat_tests)
  with_cell-set (first ∷ entries) (suc i) d within lacks at_code =
      let later = with_cell-set entries i d (omega arith) lacks.1 at_code in
      grind (arith, nat_tests)

-- the codes, and how many there are
codes_of : List (ℕ × Cell) → List ℕ
codes_of = map (λ entry. entry.0)

distinct-codes : (entries : List (ℕ × Cell)) → AreApart entries
    → IsDistinct eqb (codes_of entries)
unfolding codes_of IsDistinct
distinct-codes [] apart = tt
distinct-codes (entry ∷ entries) apart =
    (apart-one entries apart.0, distinct-codes entries apart.1)
  where
    apart-one : (entries : List (ℕ × Cell)) → Lacks entries entry.0
        → AllByRecursion (λ at. eqb entry.0 at ≡ false) (codes_of entries)
    apart-one [] lacks = tt
    apart-one (other ∷ entries) lacks = (grind (arith, nat_tests), apart-one entries lacks.1)

codes-below : (number : ℕ) (entries : List (ℕ × Cell)) → AreBelow number entries
    → (code : ℕ) → list_any (eqb code) (codes_of entries) ≡ true → code < number
unfolding codes_of
codes-below number [] below code is = absurd (false≢true is)
codes-below number (entry ∷ entries) below code is =
    let first = All-head (λ (e : ℕ × Cell). e.0 < number) entry entries below in
    let rest = codes-below number entries (All-tail (λ e. e.0 < number) entry entries below) code in
    grind (arith, nat_tests)

keyed-length : (number : ℕ) (entries : List (ℕ × Cell)) → IsKeyed number entries
    → length entries ≤ number
unfolding codes_of
keyed-length number entries keyed =
    rw length-map at (length-le_from_distinct_below (codes_of entries) number
    (distinct-codes entries keyed.apart) (codes-below number entries keyed.below))

-- there is room for a code that isn't there
pub keyed-room : (number : ℕ) (entries : List (ℕ × Cell)) (code : ℕ) → IsKeyed number entries
    → code < number → Lacks entries code → (cell : Cell) → length entries < number
keyed-room number entries code keyed below lacks cell =
    let le = keyed-length number ((code, cell) ∷ entries) (record {
      apart = (lacks, keyed.apart);
      below = All-cons (λ entry. entry.0 < number) (code, cell) entries below keyed.below;
    }) in
    omega arith

-- a list that is told to be empty
pub nil-told : {X : Type 0} (xs : List X) (told : Bool) → told ≡ (length xs == 0) → told ≡ true
    → xs ≡ []
nil-told [] told is so = refl
nil-told (x ∷ xs) told is so = absurd (grind (arith, nat_tests))

-- a list that is told not to be empty
pub some-told : {X : Type 0} (xs : List X) (told : Bool) → told ≡ (length xs == 0)
    → told ≡ false → xs ≡ [] → ⊥
some-told [] told is so nil = false≢true (sym so ∙ is)
some-told (x ∷ xs) told is so nil = cc
