-- What the steps from all entries lead to.
use Rattle.mdb_follow.proofs.Words.{◌≡◌, ◌⊎◌, inl, inr, ℕ, ◌+◌, ◌<◌, ◌^◌, sym, ap, List, [], ◌∷◌, ◌++◌, refl, length, get_or, take, Contains, All, ◌↔◌, All-head, All-tail, Contains-append_left, Contains-get_or, Contains-push, Contains-push_cases, take_more, Gains, IsSmall, Cell, moved_cell, IsCell, IsCellWithin, IsTableWithin, Sums, AreApart, IsKeyed, with_cell, with_moves}
use Rattle.mdb_follow.proofs.Ends.{Moved, cell-moved, cell-moved-within}
use Rattle.mdb_follow.proofs.Listed.{AreFound, found-same, found-with_cell, contains-cases, contains-here, contains-none, contains-there, keyed-with_cell, apart-with_cell, within-with_cell}

-- a step of a list leads to a code from sums of a kind
abbrev LedBy : (Sums → Type 0) → List (ℕ × Gains) → ℕ → Sums → Type 0
LedBy Kind moves next sums =
    (gains : Gains) × Contains moves (next, gains) × Moved Kind gains sums

-- a step of a relation leads to a code from the sums of an entry
pub data Led (Comes : ℕ → Sums → Type 0) (Move : ℕ → ℕ → Gains → Type 0)
    (entries : List (ℕ × Cell)) (next : ℕ) (sums : Sums) : Type 0 where
  from_entry : (entry : ℕ × Cell) → Contains entries entry → (gains : Gains)
      → Move entry.0 next gains → Moved (Comes entry.0) gains sums
      → Led Comes Move entries next sums

-- the moves of two lists are taken in one after the other
pub with_moves-append : (entries : List (ℕ × Cell)) (cell : Cell) (one other : List (ℕ × Gains))
    → with_moves entries cell (one ++ other) ≡ with_moves (with_moves entries cell one) cell other
with_moves-append entries cell [] other = refl
with_moves-append entries cell (move ∷ one) other =
    with_moves-append (with_cell entries move.0 (moved_cell cell move.1)) cell one other

pub keyed-with_moves : (number : ℕ) (entries : List (ℕ × Cell)) (cell : Cell)
    (moves : List (ℕ × Gains)) → All (λ move. move.0 < number) moves → IsKeyed number entries
    → IsKeyed number (with_moves entries cell moves)
keyed-with_moves number entries cell [] below keyed = keyed
keyed-with_moves number entries cell (move ∷ moves) below keyed =
    keyed-with_moves number (with_cell entries move.0 (moved_cell cell move.1)) cell moves
    (All-tail (λ move. move.0 < number) move moves below)
    (keyed-with_cell move.0 (moved_cell cell move.1) number entries
    (All-head (λ move. move.0 < number) move moves below) keyed)

pub within-with_moves : (limit : ℕ) (entries : List (ℕ × Cell)) (cell : Cell)
    (moves : List (ℕ × Gains)) → All (λ move. IsSmall move.1) moves → IsCellWithin limit cell
    → IsTableWithin (limit + 2 ^ 32) entries
    → IsTableWithin (limit + 2 ^ 32) (with_moves entries cell moves)
within-with_moves limit entries cell [] small is all = all
within-with_moves limit entries cell (move ∷ moves) small is all =
    within-with_moves limit (with_cell entries move.0 (moved_cell cell move.1)) cell moves
    (All-tail (λ move. IsSmall move.1) move moves small) is
    (within-with_cell move.0 (moved_cell cell move.1) (limit + 2 ^ 32) entries
    (cell-moved-within limit cell move.1 is (All-head (λ move. IsSmall move.1) move moves small))
    all)

-- a table with moves of a cell has what comes with the table or by the moves
found-with_moves : (Comes : ℕ → Sums → Type 0) (Kind : Sums → Type 0) (entries : List (ℕ × Cell))
    (cell : Cell) (moves : List (ℕ × Gains)) → IsCell Kind cell → AreFound Comes entries
    → AreFound (λ next sums. Comes next sums ⊎ LedBy Kind moves next sums)
    (with_moves entries cell moves)
found-with_moves Comes Kind entries cell [] is old =
    found-same Comes _ entries (λ next sums. (
      inl,
      λ either. elim either [
        | inl c ↦ c
        | inr l ↦ absurd (contains-none (next, l.0) l.1)
      ],
    )) old
found-with_moves Comes Kind entries cell (move ∷ moves) is old =
    let moved = moved_cell cell move.1 in
    found-same _ _ _ (λ next sums. (
      λ either. elim either [
        | inl (inl c) ↦ inl c
        | inl (inr m) ↦
            inr (move.1, contains-here move moves (next, move.1) (λ i. (sym m.0 i, move.1)), m.1)
        | inr l ↦ inr (l.0, contains-there move moves (next, l.0) l.1, l.2)
      ],
      λ either. elim either [
        | inl c ↦ inl (inl c)
        | inr l ↦ elim (contains-cases move moves (next, l.0) l.1) [
          | inl same ↦ inl (inr (λ i. (sym same i).0, rw (ap (λ m. m.1) same) l.2))
          | inr rest ↦ inr (l.0, rest, l.2)
        ]
      ],
    ))
    (found-with_moves (λ next sums. Comes next sums ⊎ ((next ≡ move.0) × Moved Kind move.1 sums))
    Kind (with_cell entries move.0 moved) cell moves is
    (found-with_cell move.0 moved Comes (Moved Kind move.1) entries old
    (cell-moved Kind cell move.1 is)))

pub apart-with_moves : (entries : List (ℕ × Cell)) (cell : Cell) (moves : List (ℕ × Gains))
    → AreApart entries → AreApart (with_moves entries cell moves)
apart-with_moves entries cell [] apart = apart
apart-with_moves entries cell (move ∷ moves) apart =
    apart-with_moves (with_cell entries move.0 (moved_cell cell move.1)) cell moves
    (apart-with_cell move.0 (moved_cell cell move.1) entries apart)

module _ (Comes : ℕ → Sums → Type 0) (Move : ℕ → ℕ → Gains → Type 0) where
  -- no entry leads nowhere
  pub led-none : AreFound (Led Comes Move []) []
  led-none = record {
    each = λ code sums l. elim l [
      | from_entry entry listed gains move moved ↦ contains-none entry listed
    ];
  }

  -- one entry more
  pub led-more : (from : List (ℕ × Cell)) (entry : ℕ × Cell) (moves : List (ℕ × Gains))
      (into : List (ℕ × Cell)) → IsCell (Comes entry.0) entry.1
      → ((next : ℕ) (gains : Gains) → Contains moves (next, gains) ↔ Move entry.0 next gains)
      → AreFound (Led Comes Move from) into
      → AreFound (Led Comes Move (from ++ entry ∷ [])) (with_moves into entry.1 moves)
  led-more from entry moves into is steps old =
      found-same _ _ _ (λ next sums. (
        λ either. elim either [
          | inl (from_entry one listed gains move moved) ↦
              from_entry one (Contains-append_left from _ one listed) gains move moved
          | inr l ↦ from_entry entry (Contains-push from entry) l.0 ((steps next l.0).0 l.1) l.2
        ],
        λ l. elim l [
          | from_entry one listed gains move moved ↦
              elim (Contains-push_cases from entry one listed) [
                | inl rest ↦ inl (from_entry one rest gains move moved)
                | inr same ↦ inr (gains, (steps next gains).1 (rw same move), rw same moved)
              ]
        ],
      ))
      (found-with_moves (Led Comes Move from) (Comes entry.0) into entry.1 moves is old)

  -- one entry more was read, and its moves were added
  pub led-read : (from : List (ℕ × Cell)) (i : ℕ) (d : ℕ × Cell) (moves : List (ℕ × Gains))
      (into after : List (ℕ × Cell)) → i < length from
      → IsCell (Comes (get_or from i d).0) (get_or from i d).1
      → ((next : ℕ) (gains : Gains) → Contains moves (next, gains)
      ↔ Move (get_or from i d).0 next gains) → after ≡ with_moves into (get_or from i d).1 moves
      → AreFound (Led Comes Move (take i from)) into
      → AreFound (Led Comes Move (take (i + 1) from)) after
  led-read from i d moves into after within is steps made old =
      rw (take_more from i d within, made)
      (led-more (take i from) (get_or from i d) moves into is steps old)

-- what a pair's moves are known to be, of the slice that they are read from
pub moves-kept : (number codes : ℕ) (moves slice : List (ℕ × Gains)) → number ≡ codes
    → slice ≡ moves
    → ((next : ℕ) (gains : Gains) → Contains moves (next, gains) → (next < codes) × IsSmall gains)
    → All (λ move. move.0 < number) slice × All (λ move. IsSmall move.1) slice
moves-kept number codes moves slice size is below = rw (is, size) (
  λ k d within. (below _ _ (Contains-get_or moves k d within)).0,
  λ k d within. (below _ _ (Contains-get_or moves k d within)).1,
)

-- one move more was read, and its cell was taken in
pub moves-read : (entries before after : List (ℕ × Cell)) (cell : Cell)
    (moves : List (ℕ × Gains)) (i : ℕ) (d : ℕ × Gains) → i < length moves
    → before ≡ with_moves entries cell (take i moves)
    → after ≡ with_cell before (get_or moves i d).0 (moved_cell cell (get_or moves i d).1)
    → after ≡ with_moves entries cell (take (i + 1) moves)
moves-read entries before after cell moves i d within so_far made =
    rw (take_more moves i d within, with_moves-append, ← so_far) made
