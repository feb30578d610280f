-- What steps from entries lead to, as it is taken in.
use Rattle.mdb_run_search.proofs.Words.{arith, inl, inr, refl, subst, ◌∙◌, ◌≡◌, ◌≢◌, ◌+◌, ◌<◌, ℕ, ℤ, ◌+ℤ◌, List, [], ◌∷◌, ◌++◌, length, ints, Contains-append_left, Contains-push, Contains-push_cases, Choice, Plain, Gains, IsSmall, IsStep, Best, Weight, Link, marks_at, KeepChains, AreLed, HasAsGood, IsLed, HasSteps, TakesSteps, weight_of, LinksGoOnFrom, TakesIn, plain_or_not, step_as, Denotes, Mark}
use Rattle.mdb_run_search.proofs.Bests.{has-weaker, marks-most, takes-same}
use Rattle.mdb_run_search.proofs.Chains.{keep-same}

-- what is taken in is so in weaker words
takes-as : {Is Other : ℕ × Best → Type 0} {old new : List (ℕ × Best)} → TakesIn Is old new
    → ((entry : ℕ × Best) → Is entry → Other entry) → TakesIn Other old new
takes-as takes weaker = record {
  from = λ entry in'. grind (arith, takes.from entry in', weaker);
  kept = takes.kept;
}

-- what is taken in first, and what is taken in then
takes-then : {Is : ℕ × Best → Type 0} {old mid new : List (ℕ × Best)} → TakesIn Is old mid
    → TakesIn Is mid new → TakesIn Is old new
takes-then first last = record {
  from = λ entry in'. grind (arith, last.from entry in', first.from);
  kept = λ code value marks has. last.kept code value marks (first.kept code value marks has);
}

module _ {State : Type 0} {number row : ℕ} {code_of : State → ℕ}
    {Step : Choice → State → State → Gains → Type 0} {weight : Weight} where
  -- where there is no step, nothing is taken in
  pub takes-nothing : (choice : Choice) (links : List Link) (before : ℕ × Best)
      (entries : List (ℕ × Best))
      → ((next : ℕ) (gains : Gains) → IsStep code_of (Step choice) before.0 next gains → ⊥)
      → TakesSteps number (λ one. one ≡ choice) code_of Step weight row links links before entries
      entries
  takes-nothing choice links before entries none = record {
    takes = takes-same entries;
    has = λ one same next gains step. absurd (none next gains (rw same at step));
  }

  -- where there is one, it alone
  pub takes-one : (choice : Choice) {old_links links : List Link} {before : ℕ × Best}
      {old new : List (ℕ × Best)} {next : ℕ} {gains : Gains} {value : ℤ}
      → value ≡ before.1.value +ℤ weight_of weight gains → IsSmall gains → next < number
      → IsStep code_of (Step choice) before.0 next gains
      → ((to : ℕ) (got : Gains) → IsStep code_of (Step choice) before.0 to got
      → (next ≡ to) × (gains ≡ got))
      → TakesIn (LinksGoOnFrom old_links links before.1 row choice next value) old new
      → HasAsGood new next value (before.1.marks + length (marks_at row choice))
      → TakesSteps number (λ one. one ≡ choice) code_of Step weight row old_links links before old
      new
  takes-one choice {gains = gains} is small below step only takes has = record {
    takes = takes-as takes (λ entry goes. record {
      choice = choice;
      can = refl;
      gains = gains;
      small = small;
      below = rw goes.code below;
      step = rw goes.code step;
      goes = record {
        code = refl;
        value = goes.value ∙ is;
        marks = goes.marks;
        chain = goes.chain;
      };
    });
    has = λ one same to got way.
        (let its = only to got (rw same at way) in rw (same, ← its.1, ← its.0, ← is) has);
  }

  -- an entry that a step leads to is so by the chains of before and by those of after
  led-relinked : {One Other : Choice → Type 0} {oldest old new newest : List Link}
      {before entry : ℕ × Best}
      → IsLed number One code_of Step weight row old new before entry
      → ((choice : Choice) → One choice → Other choice) → KeepChains oldest old
      → KeepChains new newest
      → IsLed number Other code_of Step weight row oldest newest before entry
  led-relinked {oldest = oldest} {newest = newest} {before} {entry} led can first last =
      let may = can led.choice led.can in
      let chain : (marks : List (ℕ × Mark)) → Denotes oldest before.1.chain marks
      → Denotes newest entry.1.chain (marks ++ marks_at row led.choice) =
      λ marks was. last _ _ (led.goes.chain marks (first _ marks was)) in
      search (chain, may, led)

  -- what the plain step leads to is taken in, and then what that by a second choice does: each
  -- other choice leads nowhere else than this one
  pub takes-both : {Can : Choice → Type 0} {old_links mid_links links : List Link}
      {before : ℕ × Best} {old mid new : List (ℕ × Best)} (second : Choice) → Can Plain
      → Can second
      → ((any : Choice) → Can any → any ≢ Plain → (from to : State) (gains : Gains)
      → Step any from to gains → Step second from to gains)
      → KeepChains old_links mid_links → KeepChains mid_links links
      → TakesSteps number (λ one. one ≡ Plain) code_of Step weight row old_links mid_links before
      old mid
      → TakesSteps number (λ one. one ≡ second) code_of Step weight row mid_links links before mid
      new
      → TakesSteps number Can code_of Step weight row old_links links before old new
  takes-both second plain can leads first last takes more = record {
    takes = takes-then
        (takes-as takes.takes
        (λ entry led. led-relinked led (λ choice same. rw same plain) keep-same last))
        (takes-as more.takes
        (λ entry led. led-relinked led (λ choice same. rw same can) first keep-same));
    has = λ choice stands next gains step. elim (plain_or_not choice) [
      | inl is ↦ more.takes.kept next _ _ (takes.has choice is next gains step)
      | inr not ↦
          let fewer = marks-most row second choice not in
          has-weaker (omega (arith, ints))
          (more.has second refl next gains (step_as (leads choice stands not) step))
    ];
  }

  -- what the plain step leads to is all, where no choice leads elsewhere
  pub takes-plain : {Can : Choice → Type 0} {old_links links : List Link} {before : ℕ × Best}
      {old new : List (ℕ × Best)} → Can Plain
      → ((choice : Choice) → Can choice → (next : ℕ) (gains : Gains)
      → IsStep code_of (Step choice) before.0 next gains
      → IsStep code_of (Step Plain) before.0 next gains)
      → TakesSteps number (λ one. one ≡ Plain) code_of Step weight row old_links links before old
      new
      → TakesSteps number Can code_of Step weight row old_links links before old new
  takes-plain can leads takes = record {
    takes = takes-as takes.takes
        (λ entry led. led-relinked led (λ choice same. rw same can) keep-same keep-same);
    has = λ choice stands next gains step. has-weaker (omega (arith, ints))
        (takes.has Plain refl next gains (leads choice stands next gains step));
  }

  module _ {Can : Choice → Type 0} {old_links mid_links links : List Link}
      {old new : List (ℕ × Best)} where
    -- one entry more is led
    pub led-push : (from : List (ℕ × Best)) (before : ℕ × Best) → KeepChains old_links mid_links
        → KeepChains mid_links links
        → AreLed number Can code_of Step weight row old_links mid_links from old
        → TakesSteps number Can code_of Step weight row mid_links links before old new
        → AreLed number Can code_of Step weight row old_links links (from ++ before ∷ []) new
    led-push from before first last led takes = record {
      sound = λ entry in'. elim (takes.takes.from entry in') [
        | inl had ↦
            (let was = led.sound entry had in (
              was.0,
              Contains-append_left from (before ∷ []) was.0 was.1,
              led-relinked was.2 (λ choice can. can) keep-same last,
            ))
        | inr is ↦ (
          before,
          Contains-push from before,
          led-relinked is (λ choice can. can) first keep-same,
        )
      ];
      whole = λ one in'. elim (Contains-push_cases from before one in') [
        | inl was ↦ λ choice can next gains step.
            takes.takes.kept next _ _ (led.whole one was choice can next gains step)
        | inr same ↦ subst (λ (b : ℕ × Best). HasSteps Can code_of Step weight row b new) same
            takes.has
      ];
    }
