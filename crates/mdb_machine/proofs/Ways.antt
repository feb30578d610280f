-- The steps that an act may be, by the choices that can stand on it.
use Rattle.mdb_machine.proofs.Words.{ap, not, ◌≡◌, ◌≢◌, ◌↔◌, ◌⊎◌, inl, inr, ℕ, Bool, true, false, IsTrue, List, Option, Some, None, refl, sym, subst, ◌∙◌, OnFalse, none-some, same_Some, Act, Beginning, Choice, Plain, Lost, Restart, Again, Gains, CanStand, CanStandFor, IsActOf, IsChosenStep, IsMachineOf, IsOfAnother, IsOnlyStep, IsOtherMove, IsStep, Stays}
use Rattle.mdb_msgs.specs.declared.command.Device.{Device}
use Rattle.mdb_bus.specs.declared.act.Act.TheVariants as acts
use Rattle.mdb_machine.specs.Machine.{Machine}

-- a choice is the plain one, or another
pub plain_or_not : (choice : Choice) → (choice ≡ Plain) ⊎ (choice ≢ Plain)
plain_or_not Plain = inl refl
plain_or_not Lost = inr (λ same. absurd cc)
plain_or_not Restart = inr (λ same. absurd cc)
plain_or_not Again = inr (λ same. absurd cc)

-- an act of another device isn't the device's own
pub not_its_own : (device : Device) (act : Act) → IsOfAnother device act → IsActOf device act → ⊥
not_its_own device acts.Foreign other = absurd other
not_its_own device act other = other

-- an act in which the device has no part leaves state and sums, wherever the recording begins
pub still_elsewhere : {State : Type 0} (device its : Device) (machine : Beginning → Machine State)
    (act : Act) (own : Bool) → ((begins : Beginning) → IsMachineOf device (machine begins))
    → its ≡ device → IsTrue own ↔ IsActOf its act
    → OnFalse own ((begins : Beginning) (acts : List Act) (choice : Choice) (before after : State)
    (gains : Gains)
    → (machine begins).Step acts act choice before after gains ↔ Stays before after gains)
still_elsewhere device its machine act true is same own = tt
still_elsewhere device its machine act false is same own =
    λ begins acts choice before after gains.
    (is begins).elsewhere acts act choice before after gains
    (λ of. let never : false ≡ true = own.1 (subst (λ d. IsActOf d act) (sym same) of) in
    absurd cc)

-- The step by any choice but the plain one is one by the other choice that is found: a reply that
-- approves a sale leads nowhere else as one that tells of a restart.
pub by_second : {State : Type 0} {device : Device} (machine : Machine State)
    → IsMachineOf device machine → (so_far : List Act) (act : Act) (found : Option Choice)
    (second : Choice) → found ≡ Some second
    → ((any : Choice) → found ≡ Some any → CanStand act any × (any ≢ Plain))
    → ((any : Choice) → CanStand act any → any ≢ Plain
    → (found ≡ Some any) ⊎ ((any ≡ Restart) × (found ≡ Some Again)))
    → (any : Choice) → CanStand act any → any ≢ Plain → (before after : State) (gains : Gains)
    → machine.Step so_far act any before after gains
    → machine.Step so_far act second before after gains
by_second machine is so_far act found second same stands only any can other before after gains step
    =
    elim (only any can other) [
      | inl one ↦ subst (λ c. machine.Step so_far act c before after gains)
          (same_Some any second (sym one ∙ same)) step
      | inr restart ↦
          let again : Again ≡ second = same_Some Again second (sym restart.1 ∙ same) in
          subst (λ c. machine.Step so_far act c before after gains) again
          (is.restarts so_far act before after gains (stands Again restart.1).0
          (subst (λ c. machine.Step so_far act c before after gains) restart.0 step))
    ]

-- where no other choice is found, the plain one can stand alone
pub plain_only : (act : Act) (found : Option Choice) → found ≡ None
    → ((any : Choice) → CanStand act any → any ≢ Plain
    → (found ≡ Some any) ⊎ ((any ≡ Restart) × (found ≡ Some Again)))
    → (choice : Choice) → CanStand act choice → choice ≡ Plain
plain_only act found none only choice can =
    elim (plain_or_not choice) [
      | inl same ↦ same
      | inr not ↦ absurd (elim (only choice can not) [
        | inl is ↦ none-some choice (sym none ∙ is)
        | inr restart ↦ none-some Again (sym none ∙ restart.1)
      ])
    ]

-- a step between codes is another, where each step is
pub step_as : {State : Type 0} {code_of : State → ℕ} {One Other : State → State → Gains → Type 0}
    {code next : ℕ} {gains : Gains}
    → ((before after : State) (gains : Gains) → One before after gains → Other before after gains)
    → IsStep code_of One code next gains → IsStep code_of Other code next gains
step_as {gains = gains} each is = record {
  before = is.before;
  after = is.after;
  starts = is.starts;
  ends = is.ends;
  step = each is.before is.after gains is.step;
}

module _ {State : Type 0} (device : Device) (act : Act) (code_of : State → ℕ)
    (Step : Choice → State → State → Gains → Type 0) (code : ℕ) where
  -- the step by a choice, if there is one, with the code after it
  abbrev IsChosen : Choice → Option (ℕ × Gains) → Type 0
  IsChosen choice step = (next : ℕ) (gains : Gains)
      → (step ≡ Some (next, gains)) ↔ IsChosenStep device act code_of Step choice code next gains

  -- and that by any choice but the plain one
  abbrev IsOther : Option (ℕ × Gains) → Type 0
  IsOther step = (next : ℕ) (gains : Gains)
      → (step ≡ Some (next, gains)) ↔ IsOtherMove act code_of Step code next gains

  -- the steps by the one other choice that there is
  pub by_other : (choice : Choice) (step : Option (ℕ × Gains))
      → CanStand act choice × (choice ≢ Plain)
      → ((any : Choice) → CanStand act any → any ≢ Plain → (before after : State) (gains : Gains)
      → Step any before after gains → Step choice before after gains)
      → IsChosen choice step → IsOther step
  by_other choice step stands leads steps next gains = (
    λ made. (choice, stands.0, stands.1, ((steps next gains).0 made).1),
    λ move.
        (steps next gains).1 (inl stands.0, step_as (leads move.0 move.1 move.2) move.3),
  )

-- the one step from the state of a code, with the code after it
pub chosen_some : {State : Type 0} (device : Device) (act : Act) (code_of : State → ℕ)
    (Step : Choice → State → State → Gains → Type 0) (choice : Choice) (code coded : ℕ)
    (before after : State) (gains : Gains) (stands : Bool)
    → ((one other : State) → code_of one ≡ code_of other → one ≡ other) → code_of before ≡ code
    → coded ≡ code_of after → IsTrue stands ↔ CanStandFor device act choice
    → stands ≡ true → IsOnlyStep (Step choice before) (Some (after, gains))
    → (next : ℕ) (more : Gains) → (◌≡◌ {A = Option (ℕ × Gains)} (Some (coded, gains))
    (Some (next, more))) ↔ IsChosenStep device act code_of Step choice code next more
chosen_some device act code_of Step choice code coded before after gains false apart starts ends
    can barred only next more = absurd cc
chosen_some {State = State} device act code_of Step choice code coded before after gains true apart
    starts ends can barred only next more = (
      λ same.
          let pair = same_Some {A = ℕ × Gains} (coded, gains) (next, more) same in
          let at : coded ≡ next = ap (λ (p : ℕ × Gains). p.0) pair in
          let gained : gains ≡ more = ap (λ (p : ℕ × Gains). p.1) pair in (
            can.0 refl,
            record {
              before = before;
              after = after;
              starts = starts;
              ends = sym ends ∙ at;
              step = subst (λ g. Step choice before after g) gained only.0;
            },
          ),
      λ chosen.
          let step = chosen.1 in
          let from : step.before ≡ before = apart step.before before (step.starts ∙ sym starts) in
          let one = only.1 step.after more
          (subst (λ b. Step choice b step.after more) from step.step) in
          let at : coded ≡ next = ends ∙ ap code_of (sym one.0) ∙ step.ends in
          ap (λ (n : ℕ). Some (n, gains)) at ∙ ap (λ (g : Gains). Some (next, g)) (sym one.1),
    )
