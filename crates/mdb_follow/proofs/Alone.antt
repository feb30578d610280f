-- A table of one entry, which is led over an act where it stands.
use Rattle.mdb_follow.proofs.Words.{◌≡◌, ◌⊎◌, ◌+◌, ◌<◌, ◌^◌, ℕ, Bool, false, true, refl, arith, List, [], ◌∷◌, length, Option, Some, None, OnFalse, OnTrue, All, IfSome, ◌↔◌, All-nil, Device, Act, Plain, Gains, IsSmall, IsChosenStep, IsMove, IsStep, Machine, Cell, Arrives, IsCellWithin, IsTableWithin, ArrivesAt, Bounds, IsTable, AreBelow, AreMoves, LeadTo}
use Rattle.mdb_follow.proofs.Led.{apart-with_moves, keyed-with_moves, led-more, led-none, moves-kept, within-with_moves}
use Rattle.mdb_follow.proofs.Listed.{contains-here}
use Rattle.mdb_follow.proofs.TwoMoves.{either-moves, small-moves, two-moves}
use Rattle.mdb_follow.proofs.Ways.{table-led}

-- a list of one
pub only-is : {X : Type 0} (xs : List X) → length xs ≡ 1 → (x : X) × (xs ≡ x ∷ [])
only-is [] is = absurd (omega (arith, is))
only-is (x ∷ []) is = (x, refl)
only-is (x ∷ y ∷ xs) is = absurd (omega (arith, is))

pub some-entry : {X : Type 0} (xs : List X) → 0 < length xs → xs ≡ [] → ⊥
some-entry [] some none = omega (arith, some)
some-entry (x ∷ xs) some none = cc

-- where two steps are below a number and small, so is what they lead to
module _ (number codes : ℕ) (one other : Option (ℕ × Gains)) (size : number ≡ codes)
    (one_below : IfSome one (λ move. (move.0 < codes) × IsSmall move.1))
    (other_below : IfSome other (λ move. (move.0 < codes) × IsSmall move.1)) where
  kept : (moves : List (ℕ × Gains)) → AreMoves moves one other
      → All (λ move. move.0 < number) moves × All (λ move. IsSmall move.1) moves
  kept moves lists = moves-kept number codes moves moves size refl
      (small-moves (λ next gains. (next < codes) × IsSmall gains) one other moves one_below
      other_below lists)

  pub alone-below : (cell : Cell) (after : List (ℕ × Cell)) → LeadTo cell one other after
      → AreBelow number after
  alone-below cell after led =
      let keyed = keyed-with_moves number [] cell led.0 (kept led.0 led.1).0
      (record { apart = tt; below = All-nil (λ entry. entry.0 < number) }) in
      rw led.2 keyed.below

  pub alone-within : (limit : ℕ) (cell : Cell) (after : List (ℕ × Cell)) → IsCellWithin limit cell
      → LeadTo cell one other after → IsTableWithin (limit + 2 ^ 32) after
  alone-within limit cell after is led = rw led.2 (within-with_moves limit [] cell led.0
      (kept led.0 led.1).1 is
      (All-nil (λ entry. IsCellWithin (limit + 2 ^ 32) entry.1)))

-- what arrives after one act more is what the steps from the only entry lead to
pub alone-led : {State : Type 0} (device : Device) (code_of : State → ℕ)
    (machine : Machine State) (act : Act) (acts : List Act)
    (entries : List (ℕ × Cell)) (entry : ℕ × Cell) (code : ℕ) (one other : Option (ℕ × Gains))
    (after : List (ℕ × Cell)) → entries ≡ entry ∷ [] → code ≡ entry.0
    → ((one other : State) → code_of one ≡ code_of other → one ≡ other)
    → ((next : ℕ) (gains : Gains) → (one ≡ Some (next, gains))
    ↔ IsChosenStep device act code_of (machine.Step acts act) Plain code next gains)
    → ((next : ℕ) (gains : Gains) → other ≡ Some (next, gains)
    → IsMove act code_of (machine.Step acts act) code next gains)
    → ((next : ℕ) (gains : Gains) → IsMove act code_of (machine.Step acts act) code next gains
    → (other ≡ Some (next, gains)) ⊎ IsStep code_of (machine.Step acts act Plain) code next gains)
    → IsTable code_of machine acts entries
    → LeadTo entry.1 one other after
    → Bounds (ArrivesAt code_of (Arrives machine (act ∷ acts))) after
alone-led device code_of machine act acts entries entry code one other after only here apart
    one_is sound whole table led =
    let alone = rw only at table in
    let steps = either-moves act code_of (machine.Step acts act) code device one other led.0
    one_is sound whole led.1 in
    table-led code_of machine act acts (entry ∷ []) after apart alone
    (rw led.2 (apart-with_moves [] entry.1 led.0 tt))
    (rw led.2 (led-more _ _ [] entry led.0 []
    (alone.bounds.exact entry.0 entry.1 (contains-here entry [] entry refl)) (rw here at steps)
    (led-none _ _)))

-- no step leads to no entry
pub lead-none : (cell : Cell) (one other : Option (ℕ × Gains)) → one ≡ None → other ≡ None
    → LeadTo cell one other []
lead-none cell one other is so = rw (is, so) ([], two-moves None None, refl)

-- what holds of the entries that it is led to, and of those that it stays with
pub alone-either : (P : List (ℕ × Cell) → Type 0) (found : Bool)
    (entries after : List (ℕ × Cell)) (One : Type 0) → OnTrue found One
    → OnFalse found (after ≡ entries) → (One → P after) → P entries → P after
alone-either P true entries after One led same goes stays = goes led
alone-either P false entries after One led same goes stays = rw same stays
