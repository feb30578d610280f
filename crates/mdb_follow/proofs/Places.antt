-- The places of entries, noted under their codes.
use Rattle.mdb_follow.proofs.Words.{◌≡◌, ℕ, zero, suc, ◌<◌, subst, arith, List, [], ◌∷◌, ◌++◌, length, get_or, take, slice_set, take_all, Contains-get_or, Cell, HasAt, IsPlaced, Lacks, get_or_append_left, get_or-set_other, get_or-set_same, length-set, get_or-append_seam}
use Rattle.std.proofs.lemmas.List.{length-append}
use Rattle.mdb_follow.proofs.Listed.{lacks-none}

-- an entry that no place has
lacks-front : (entries : List (ℕ × Cell)) (i code : ℕ)
    → ((k : ℕ) → k < i → HasAt entries k code → ⊥) → Lacks (take i entries) code
lacks-front entries zero code none = tt
lacks-front [] (suc i) code none = tt
lacks-front (entry ∷ entries) (suc i) code none = (
  λ is. none 0 (omega arith) (omega arith, λ d. is),
  lacks-front entries i code (λ k lt has. none (suc k) (omega arith)
      (omega (arith, has.0), λ d. has.1 d)),
)

-- what is noted under the code of an entry is its place
placed-at : (entries : List (ℕ × Cell)) (places : List ℕ) (k code : ℕ) (d : ℕ × Cell)
    → IsPlaced entries places → HasAt entries k code → get_or places code 0 ≡ k
placed-at entries places k code d placed has =
    subst (λ c. get_or places c 0 ≡ k) (has.1 d) (placed.at k d has.0)

-- before the place that is noted under a code no entry has it
pub placed-front : (entries : List (ℕ × Cell)) (places : List ℕ) (code : ℕ) (d : ℕ × Cell)
    → IsPlaced entries places → Lacks (take (get_or places code 0) entries) code
placed-front entries places code d placed =
    lacks-front entries (get_or places code 0) code
    (λ k lt has. let e = placed-at entries places k code d placed has in omega arith)

-- where the entry at that place hasn't the code, none has
pub placed-lacks : (entries : List (ℕ × Cell)) (places : List ℕ) (code : ℕ) (d : ℕ × Cell)
    → IsPlaced entries places → (HasAt entries (get_or places code 0) code → ⊥)
    → Lacks entries code
placed-lacks entries places code d placed not =
    rw (take_all (length entries) entries (omega arith)) at
    (lacks-front entries (length entries) code
    (λ k lt has. not (rw (placed-at entries places k code d placed has) has)))

-- an entry is written, and its code stays
pub placed-written : (entries : List (ℕ × Cell)) (places : List ℕ) (i code : ℕ) (cell : Cell)
    → HasAt entries i code → IsPlaced entries places
    → IsPlaced (slice_set entries i (code, cell)) places
placed-written entries places i code cell has placed = record {
  at = λ k d within.
      let long = length-set entries i (code, cell) in
      let its = has.1 d in
      let at = placed.at k d in
      let same = get_or-set_same entries i (code, cell) d has.0 in
      let other = get_or-set_other entries i k (code, cell) d in
      grind arith;
}

-- an entry is added, and its place is noted
pub placed-push : (entries after : List (ℕ × Cell)) (places : List ℕ) (code place : ℕ)
    (cell : Cell) → IsPlaced entries places → Lacks entries code → code < length places
    → place ≡ length entries → after ≡ entries ++ (code, cell) ∷ []
    → IsPlaced after (slice_set places code place)
placed-push entries after places code place cell placed lacks within at made = rw made (record {
  at = λ k d lt.
      let long = length-append entries ((code, cell) ∷ []) in
      let left = get_or_append_left entries ((code, cell) ∷ []) d k in
      let last = get_or-append_seam entries (code, cell) [] d in
      let was = placed.at k d in
      let same = get_or-set_same places code place 0 within in
      let other = get_or-set_other places code (get_or entries k d).0 place 0 in
      let has = Contains-get_or entries k d in
      let none = lacks-none entries code (get_or entries k d).1 lacks in
      grind arith;
})
