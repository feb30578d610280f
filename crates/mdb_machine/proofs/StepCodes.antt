-- Steps with the codes of the states after them.
use Rattle.mdb_machine.proofs.Words.{◌≡◌, ◌↔◌, inl, inr, ℕ, ◌<◌, ◌++◌, List, [], ◌∷◌, ap, sym, subst, ◌∙◌, Contains, Contains-append_left, Contains-push, Contains-push_cases, Gains, IsSmall, IsStep}

-- these are the steps, with the codes of the states after them
abbrev pub AreCoded : {State : Type 0} → (State → ℕ) → List (State × Gains) → List (ℕ × Gains)
    → Type 0
AreCoded {State} code_of steps coded = (next : ℕ) (gains : Gains)
    → Contains coded (next, gains)
    ↔ (after : State) × (code_of after ≡ next) × Contains steps (after, gains)

-- one step more
pub coded_more : {State : Type 0} (code_of : State → ℕ) (steps more : List (State × Gains))
    (coded longer : List (ℕ × Gains)) (step : State × Gains) → more ≡ steps ++ step ∷ []
    → longer ≡ coded ++ (code_of step.0, step.1) ∷ []
    → AreCoded code_of steps coded → AreCoded code_of more longer
coded_more {State} code_of steps more coded longer step more_is longer_is are next gains =
    rw (more_is, longer_is) (
      λ has. elim (Contains-push_cases coded (code_of step.0, step.1) (next, gains) has) [
        | inl among ↦
            let one = (are next gains).0 among in
            (one.0, one.1, Contains-append_left steps (step ∷ []) (one.0, gains) one.2)
        | inr last ↦ (
          step.0,
          ap (λ (p : ℕ × Gains). p.0) last,
          subst (λ (g : Gains). Contains (steps ++ step ∷ []) (step.0, g))
              (ap (λ (p : ℕ × Gains). p.1) last) (Contains-push steps step),
        )
      ],
      λ has. elim (Contains-push_cases steps step (has.0, gains) has.2) [
        | inl among ↦ Contains-append_left coded ((code_of step.0, step.1) ∷ []) (next, gains)
            ((are next gains).1 (has.0, has.1, among))
        | inr last ↦ subst (λ (p : ℕ × Gains). Contains (coded ++ (code_of step.0, step.1) ∷ []) p)
            (as_pair has.0 next gains step has.1 last)
            (Contains-push coded (code_of step.0, step.1))
      ],
    )
  where
    as_pair : (after : State) (next : ℕ) (gains : Gains) (one : State × Gains)
        → code_of after ≡ next → one ≡ (after, gains)
        → ◌≡◌ {A = ℕ × Gains} (code_of one.0, one.1) (next, gains)
    as_pair after next gains one code is =
        ap (λ (p : State × Gains). (code_of p.0, p.1)) is ∙ ap (λ (n : ℕ). (n, gains)) code

-- so they are the steps from the state of a code
pub steps_coded : {State : Type 0} (code_of : State → ℕ) (Step : State → State → Gains → Type 0)
    (apart : (one other : State) → code_of one ≡ code_of other → one ≡ other)
    (before : State) (code : ℕ) (steps : List (State × Gains)) (coded : List (ℕ × Gains))
    → code_of before ≡ code
    → ((after : State) (gains : Gains) → Contains steps (after, gains) ↔ Step before after gains)
    → AreCoded code_of steps coded → (next : ℕ) (gains : Gains)
    → Contains coded (next, gains) ↔ IsStep code_of Step code next gains
steps_coded code_of Step apart before code steps coded starts are_steps are next gains = (
  λ has.
      let one = (are next gains).0 has in
      record {
        before = before;
        after = one.0;
        starts = starts;
        ends = one.1;
        step = (are_steps one.0 gains).0 one.2;
      },
  λ is.
      let same = apart is.before before (is.starts ∙ sym starts) in
      (are next gains).1 (
        is.after,
        is.ends,
        (are_steps is.after gains).1
            (subst (λ b. Step b is.after gains) same is.step),
      ),
)

-- and their codes are below the number of states, and their gains small
pub coded_below : {State : Type 0} (code_of : State → ℕ) (number : ℕ)
    → ((state : State) → code_of state < number) → (steps : List (State × Gains))
    (coded : List (ℕ × Gains)) → AreCoded code_of steps coded
    → ((after : State) (gains : Gains) → Contains steps (after, gains) → IsSmall gains)
    → (next : ℕ) (gains : Gains) → Contains coded (next, gains) → (next < number) × IsSmall gains
coded_below code_of number below steps coded are small next gains among =
    let one = (are next gains).0 among in
    (subst (λ n. n < number) one.1 (below one.0), small one.0 gains one.2)
