-- Steps of a reader by either profile, from the steps by its own.
use Rattle.std.specs.Prelude.{IfSome, IsSomeAnd}
use Rattle.mdb_cashless.proofs.Words.{Contains, option_map, ◌≡◌, ◌↔◌, ℕ, List, [], ◌∷◌, Option, Some, None, refl, ap, subst, sym, ◌∙◌, arith, inl, inr, Contains-push_cases, ReaderUnit, Act, Beginning, Profile, profile_of, Choice, Plain, Gains, Stays, no_gains, Machine, IsOnlyStep, IsStep, AreCoded, ApprovalState, StateByProfile, Base, Extended, ReaderState, base_state, by_profile, extended_state, machine_in, by_base, by_extended, base_part, extended_part, of_each, Contains-push, StepOf, strayed, IsPart, goes, power_on_in, still}
use Rattle.mdb_bus.specs.declared.act.Act.TheVariants.{Break}
use Rattle.mdb_cashless.specs.declared.by_profile.facts.KnownByProfile.{KnownByProfile}
use Rattle.mdb_cashless.specs.ByProfile.{machine}
use Rattle.mdb_cashless.specs.ByProfileFacts.{facts_of}
use Rattle.mdb_cashless.specs.ByProfileValues.{known_in}
use Rattle.mdb_cashless.specs.ExtendedFacts as extended_facts
use Rattle.mdb_cashless.specs.ExtendedReader as extended
use Rattle.mdb_cashless.specs.Reader as base
use Rattle.mdb_cashless.specs.ReaderFacts as base_facts
use Rattle.mdb_cashless.specs.shared.ByProfileCodes.{apart, code_of}

-- what is known is of the profile
pub is_base : (profile : Profile) {known its : base_facts.KnownFacts}
    (facts : extended_facts.Facts)
    → by_base known ≡ by_profile profile (by_base its) (by_extended facts)
    → (profile ≡ Profile.Base) × (known ≡ its)
is_base Profile.Base facts same = (refl, cc)
is_base Profile.Extended facts same = absurd cc

pub is_extended : (profile : Profile) {facts its : extended_facts.Facts}
    (known : base_facts.KnownFacts)
    → by_extended facts ≡ by_profile profile (by_base known) (by_extended its)
    → (profile ≡ Profile.Extended) × (facts ≡ its)
is_extended Profile.Base known same = absurd cc
is_extended Profile.Extended known same = (refl, cc)

-- a state that is none of the machine that is known of
abbrev pub IsStray : KnownByProfile → StateByProfile → Type 0
IsStray (KnownByProfile.Base known) before = base_state before ≡ None
IsStray (KnownByProfile.Extended facts) before = extended_state before ≡ None

module _ {State : Type 0} (its_state : StateByProfile → Option State) (part : IsPart its_state)
    (power_on : StateByProfile) (machine : Machine State) (so_far : List Act) (act : Act)
    (choice : Choice) where
  abbrev Step : State → State → Gains → Type 0
  Step = machine.Step so_far act choice

  abbrev StepIn : StateByProfile → StateByProfile → Gains → Type 0
  StepIn = (machine_in its_state power_on machine).Step so_far act choice

  -- a step from one of its states is one by the machine
  its_step : (its : State) (after : StateByProfile) (gains : Gains)
      → StepIn (part.into its) after gains
      → (to : State) × (after ≡ part.into to) × Step its to gains
  its_step its after gains = rw (part.again its) (by (its_state after) refl)
    where
      by : (two : Option State) → its_state after ≡ two
          → StepOf Step (Stays (strayed power_on act (part.into its)) after gains) (Some its) two
          gains → (to : State) × (after ≡ part.into to) × Step its to gains
      by (Some to) gone step = (to, part.only after to gone, step)
      by None gone step = absurd step

  pub only_step : (its : State) (found : Option (State × Gains)) → IsOnlyStep (Step its) found
      → IsOnlyStep (StepIn (part.into its)) (option_map (λ step. (part.into step.0, step.1)) found)
  only_step its None none = λ after gains step.
      let own = its_step its after gains step in none own.0 gains own.2
  only_step its (Some one) only = (
    rw (part.again its, part.again one.0) only.0,
    λ after gains step.
        let own = its_step its after gains step in
        let same = only.1 own.0 gains own.2 in (own.1 ∙ ap part.into same.0, same.1),
  )

  -- Steps by codes: those of the machine have a place among all.
  pub placed_steps : (its_code : State → ℕ) (place : ℕ → ℕ)
      → ((its : State) → code_of (part.into its) ≡ place (its_code its)) → (its : State)
      (code all : ℕ) → its_code its ≡ code → all ≡ place code → (steps coded : List (ℕ × Gains))
      → AreCoded place steps coded
      → ((next : ℕ) (gains : Gains) → Contains steps (next, gains)
      ↔ IsStep its_code Step code next gains)
      → (next : ℕ) (gains : Gains) → Contains coded (next, gains)
      ↔ IsStep code_of StepIn all next gains
  placed_steps its_code place placed its code all of of_all steps coded are_placed are next gains =
      (forth, back)
    where
      forth : Contains coded (next, gains) → IsStep code_of StepIn all next gains
      forth has =
          let found = (are_placed next gains).0 has in
          let is = (are found.0 gains).0 found.2 in
          record {
            before = part.into is.before;
            after = part.into is.after;
            starts = placed is.before ∙ ap place is.starts ∙ sym of_all;
            ends = placed is.after ∙ ap place is.ends ∙ found.1;
            step = rw (part.again is.before, part.again is.after) is.step;
          }

      back : IsStep code_of StepIn all next gains → Contains coded (next, gains)
      back is =
          let same = apart is.before (part.into its)
          (is.starts ∙ of_all ∙ ap place (sym of) ∙ sym (placed its)) in
          let own = its_step its is.after gains
          (subst (λ before. StepIn before is.after gains) same is.step) in
          let ends = sym (placed own.0) ∙ ap code_of (sym own.1) ∙ is.ends in
          (are_placed next gains).1 (
            its_code own.0,
            ends,
            (are (its_code own.0) gains).1
                (record { before = its; after = own.0; starts = of; ends = refl; step = own.2 }),
          )

-- what holds of a state by both machines, for each profile
module _ (unit : ReaderUnit) (begins : Beginning) (so_far : List Act) (act : Act) where
  abbrev pub BaseStep : Choice → ReaderState → ReaderState → Gains → Type 0
  BaseStep = (base.machine unit begins).Step so_far act

  abbrev pub ExtendedStep : Choice → ApprovalState → ApprovalState → Gains → Type 0
  ExtendedStep = (extended.machine unit begins).Step so_far act

  -- one in which it stays
  pub stays_by : (choice : Choice) (before after : StateByProfile) (gains : Gains)
      → ((length : ℕ) → act ≡ Break length → ⊥)
      → IfSome (base_state before)
      (λ its. (to : ReaderState) → BaseStep choice its to gains ↔ Stays its to gains)
      → IfSome (extended_state before)
      (λ its. (to : ApprovalState) → ExtendedStep choice its to gains ↔ Stays its to gains)
      → (machine unit begins).Step so_far act choice before after gains ↔ Stays before after gains
  stays_by choice before after gains other one two =
      of_each (λ (its : Machine StateByProfile). its.Step so_far act choice before after gains
      ↔ Stays before after gains) (profile_of begins)
      (still base_state base_part (BaseStep choice) (Base base.power_on) act before after gains
      other one)
      (still extended_state extended_part (ExtendedStep choice) (Extended extended.power_on) act
      before after gains other two)

  -- one from which a choice leads as the plain one
  pub plain_by : (choice : Choice) (before after : StateByProfile) (gains : Gains)
      → IfSome (base_state before)
      (λ its. (to : ReaderState) → BaseStep choice its to gains → BaseStep Plain its to gains)
      → IfSome (extended_state before) (λ its. (to : ApprovalState)
      → ExtendedStep choice its to gains → ExtendedStep Plain its to gains)
      → (machine unit begins).Step so_far act choice before after gains
      → (machine unit begins).Step so_far act Plain before after gains
  plain_by choice before after gains one two =
      of_each (λ (its : Machine StateByProfile). its.Step so_far act choice before after gains
      → its.Step so_far act Plain before after gains) (profile_of begins)
      (goes (BaseStep choice) (BaseStep Plain) _ (base_state before) (base_state after) gains one)
      (goes (ExtendedStep choice) (ExtendedStep Plain) _ (extended_state before)
      (extended_state after) gains two)

  -- a step of one of the machines
  pub base_step : (choice : Choice) (its : ReaderState) (found : Option (ReaderState × Gains))
      {known : base_facts.KnownFacts} → by_base known ≡ facts_of begins unit so_far
      → (known ≡ base_facts.known_of begins unit so_far → IsOnlyStep (BaseStep choice its) found)
      → IsOnlyStep ((machine unit begins).Step so_far act choice (Base its))
      (option_map (λ step. (Base step.0, step.1)) found)
  base_step choice its found stands each =
      let is = is_base (profile_of begins) _ stands in
      rw is.0 (only_step base_state base_part (Base base.power_on) (base.machine unit begins) so_far
      act choice its found (each is.1))

  pub extended_step : (choice : Choice) (its : ApprovalState)
      (found : Option (ApprovalState × Gains)) {facts : extended_facts.Facts}
      → by_extended facts ≡ facts_of begins unit so_far
      → (facts ≡ extended_facts.facts_of begins unit so_far
      → IsOnlyStep (ExtendedStep choice its) found)
      → IsOnlyStep ((machine unit begins).Step so_far act choice (Extended its))
      (option_map (λ step. (Extended step.0, step.1)) found)
  extended_step choice its found stands each =
      let is = is_extended (profile_of begins) _ stands in
      rw is.0 (only_step extended_state extended_part (Extended extended.power_on)
      (extended.machine unit begins) so_far act choice its found (each is.1))

  -- and one from a state of the other
  pub stray_step : (choice : Choice) (known : KnownByProfile) (before : StateByProfile)
      → IsStray known before → known_in known ≡ facts_of begins unit so_far
      → (after : StateByProfile) (gains : Gains)
      → (machine unit begins).Step so_far act choice before after gains
      ↔ Stays (strayed (power_on_in known) act before) after gains
  stray_step choice (KnownByProfile.Base known) before stray stands after gains =
      rw ((is_base (profile_of begins) _ stands).0, stray) (λ step. step, λ step. step)
  stray_step choice (KnownByProfile.Extended facts) before stray stands after gains =
      rw ((is_extended (profile_of begins) _ stands).0, stray) (λ step. step, λ step. step)

-- the one step from a state, by codes
pub one_step : (From : StateByProfile → StateByProfile → Gains → Type 0)
    (before to : StateByProfile) (code : ℕ) → code_of before ≡ code
    → ((after : StateByProfile) (gains : Gains) → From before after gains ↔ Stays to after gains)
    → (next : ℕ) (gains : Gains)
    → Contains {X = ℕ × Gains} ((code_of to, no_gains) ∷ []) (next, gains)
    ↔ IsStep code_of From code next gains
one_step From before to code starts each next gains =
    let one : ℕ × Gains = (code_of to, no_gains) in (
      λ has. elim (Contains-push_cases [] one (next, gains) has) [
        | inl none ↦ absurd (omega (arith, none.1))
        | inr same ↦ record {
          before = before;
          after = to;
          starts = starts;
          ends = ap (λ (p : ℕ × Gains). p.0) same;
          step = (each to gains).1 (refl, sym (ap (λ (p : ℕ × Gains). p.1) same));
        }
      ],
      λ is.
          let same = apart is.before before (is.starts ∙ sym starts) in
          let found = (each is.after gains).0 (subst (λ b. From b is.after gains) same is.step) in
          rw (← is.ends, found.0, found.1) (Contains-push [] one),
    )

-- the one state in which each starts at power-on
pub alone : {State : Type 0} (its_state : StateByProfile → Option State) (part : IsPart its_state)
    {Starts : State → Type 0} (one : State) → ((state : State) → Starts state ↔ (state ≡ one))
    → (state : StateByProfile) → IsSomeAnd (its_state state) Starts ↔ (state ≡ part.into one)
alone {State = State} its_state part {Starts = Starts} one is state = (
  by (its_state state) refl,
  λ same. rw (same, part.again one) ((is one).1 refl),
)
  where
    by : (own : Option State) → its_state state ≡ own → IsSomeAnd own Starts
        → state ≡ part.into one
    by (Some its) found starts = part.only state its found ∙ ap part.into ((is its).0 starts)
    by None found none = absurd none
