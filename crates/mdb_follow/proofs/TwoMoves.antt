-- The moves that two steps are.
use Rattle.mdb_follow.proofs.Words.{arith, ◌≡◌, ◌≢◌, ◌⊎◌, inl, inr, ℕ, ◌∙◌, sym, subst, List, [], ◌∷◌, ◌++◌, Option, Some, None, IfSome, Contains, ◌↔◌, Contains-append_cases, Contains-append_left, Contains-append_right, none-some, same_Some, Device, Act, Choice, Plain, Gains, CanStand, IsChosenStep, IsMove, IsOtherMove, IsStep, plain_or_not, step_as, Cell, AreMoves, LeadTo, moves_of, with_moves}
use Rattle.mdb_follow.proofs.Listed.{contains-cases, contains-here, contains-none}

move-is : (step : Option (ℕ × Gains)) (move : ℕ × Gains)
    → Contains (moves_of step) move ↔ (step ≡ Some move)
move-is None move = search (arith, contains-none, none-some)
move-is (Some one) move = search (arith, contains-cases, contains-here, contains-none, same_Some)

pub two-moves : (one other : Option (ℕ × Gains))
    → AreMoves (moves_of one ++ moves_of other) one other
two-moves one other move =
    let one_is = move-is one move in
    let other_is = move-is other move in
    search (arith, Contains-append_cases, Contains-append_left, Contains-append_right)

-- where both are one, it is
same-moves : (step : Option (ℕ × Gains)) → AreMoves (moves_of step) step step
same-moves step move = let is = move-is step move in search arith

-- what a cell is led to by one step, where the other is none or the same
pub lead-one : (cell : Cell) (one other : Option (ℕ × Gains)) (move : ℕ × Gains)
    (after : List (ℕ × Cell)) → one ≡ Some move → (other ≡ None) ⊎ (other ≡ Some move)
    → after ≡ with_moves [] cell (move ∷ []) → LeadTo cell one other after
lead-one cell one other move after is (inl none) made =
    rw (is, none) (move ∷ [], two-moves (Some move) None, made)
lead-one cell one other move after is (inr same) made =
    rw (is, same) (move ∷ [], same-moves (Some move), made)

-- each move is small
pub small-moves : (Small : ℕ → Gains → Type 0) (one other : Option (ℕ × Gains))
    (moves : List (ℕ × Gains))
    → IfSome one (λ move. Small move.0 move.1) → IfSome other (λ move. Small move.0 move.1)
    → AreMoves moves one other
    → (next : ℕ) (gains : Gains) → Contains moves (next, gains) → Small next gains
small-moves Small one other moves one_small other_small lists next gains among =
    elim ((lists (next, gains)).0 among) [
      | inl e ↦
          subst (λ (o : Option (ℕ × Gains)). IfSome o (λ move. Small move.0 move.1)) e one_small
      | inr e ↦
          subst (λ (o : Option (ℕ × Gains)). IfSome o (λ move. Small move.0 move.1)) e other_small
    ]

-- the moves of a state by an act
module _ {State : Type 0} (act : Act) (code_of : State → ℕ)
    (Step : Choice → State → State → Gains → Type 0) (code : ℕ) where
  -- its plain step, and that by its other choice where that isn't a plain one too
  pub either-moves : (device : Device) (plain other : Option (ℕ × Gains)) (moves : List (ℕ × Gains))
      → ((next : ℕ) (gains : Gains) → (plain ≡ Some (next, gains))
      ↔ IsChosenStep device act code_of Step Plain code next gains)
      → ((next : ℕ) (gains : Gains) → other ≡ Some (next, gains)
      → IsMove act code_of Step code next gains)
      → ((next : ℕ) (gains : Gains) → IsMove act code_of Step code next gains
      → (other ≡ Some (next, gains)) ⊎ IsStep code_of (Step Plain) code next gains)
      → AreMoves moves plain other
      → (next : ℕ) (gains : Gains) → Contains moves (next, gains)
      ↔ IsMove act code_of Step code next gains
  either-moves device plain other moves plain_is sound whole lists next gains = (
    λ among. elim ((lists (next, gains)).0 among) [
      | inl is ↦ (Plain, tt, ((plain_is next gains).0 is).1)
      | inr is ↦ sound next gains is
    ],
    λ move. (lists (next, gains)).1 (elim (whole next gains move) [
      | inl is ↦ inr is
      | inr step ↦ inl ((plain_is next gains).1 (inl tt, step))
    ]),
  )

  -- a move is the step by the other choice, or a plain one
  pub other-or-plain : (other : Option (ℕ × Gains)) (next : ℕ) (gains : Gains)
      → (other ≡ Some (next, gains)) ↔ IsOtherMove act code_of Step code next gains
      → IsMove act code_of Step code next gains
      → (other ≡ Some (next, gains)) ⊎ IsStep code_of (Step Plain) code next gains
  other-or-plain other next gains is move = elim (plain_or_not move.0) [
    | inl same ↦ inr (subst (λ c. IsStep code_of (Step c) code next gains) same move.2)
    | inr not ↦ inl (is.1 (move.0, move.1, not, move.2))
  ]

  -- where it is of no matter what is chosen of an act, each move is a plain step
  pub unheeded : (state : State)
      → ((one other : State) → code_of one ≡ code_of other → one ≡ other) → code_of state ≡ code
      → ((choice : Choice) (after : State) (gains : Gains) → CanStand act choice
      → Step choice state after gains → Step Plain state after gains)
      → (next : ℕ) (gains : Gains) → IsMove act code_of Step code next gains
      → IsStep code_of (Step Plain) code next gains
  unheeded state apart its matters_not next gains move =
      let step = move.2 in
      record {
        before = state;
        after = step.after;
        starts = its;
        ends = step.ends;
        step = matters_not move.0 step.after gains move.1
            (rw (apart step.before state (step.starts ∙ sym its)) at step.step);
      }

  -- the moves by an act of which something else than the plain one can be chosen: the steps by
  -- both, where each other choice leads nowhere else than the second
  pub all-moves : (second : Choice) (plain other : List (ℕ × Gains)) → CanStand act second
      → ((any : Choice) → CanStand act any → any ≢ Plain → (before after : State) (gains : Gains)
      → Step any before after gains → Step second before after gains)
      → ((next : ℕ) (gains : Gains) → Contains plain (next, gains)
      ↔ IsStep code_of (Step Plain) code next gains)
      → ((next : ℕ) (gains : Gains) → Contains other (next, gains)
      ↔ IsStep code_of (Step second) code next gains)
      → (next : ℕ) (gains : Gains) → Contains (plain ++ other) (next, gains)
      ↔ IsMove act code_of Step code next gains
  all-moves second plain other stands leads plain_are other_are next gains = (
    λ among. elim (Contains-append_cases plain other (next, gains) among) [
      | inl one ↦ (Plain, tt, (plain_are next gains).0 one)
      | inr one ↦ (second, stands, (other_are next gains).0 one)
    ],
    λ move. elim (plain_or_not move.0) [
      | inl same ↦ Contains-append_left plain other (next, gains) ((plain_are next gains).1
          (subst (λ c. IsStep code_of (Step c) code next gains) same move.2))
      | inr not ↦ Contains-append_right plain other (next, gains)
          ((other_are next gains).1 (step_as (leads move.0 move.1 not) move.2))
    ],
  )

  -- and by one of which the plain one alone can
  pub plain-moves : (plain : List (ℕ × Gains))
      → ((choice : Choice) → CanStand act choice → choice ≡ Plain)
      → ((next : ℕ) (gains : Gains) → Contains plain (next, gains)
      ↔ IsStep code_of (Step Plain) code next gains)
      → (next : ℕ) (gains : Gains) → Contains plain (next, gains)
      ↔ IsMove act code_of Step code next gains
  plain-moves plain only plain_are next gains = (
    λ among. (Plain, tt, (plain_are next gains).0 among),
    λ move. (plain_are next gains).1
        (subst (λ c. IsStep code_of (Step c) code next gains) (only move.0 move.1) move.2),
  )
