-- Lists of steps, to which steps are added one after another.
use Rattle.mdb_cashless.proofs.Words.{◌≡◌, ◌⊎◌, ◌↔◌, ◌+◌, ℕ, List, [], ◌∷◌, length, Bool, true, Option, Some, None, refl, arith, inl, inr, eq-or-lt_of_le, ReaderCommand, Reply, Choice, Gains, IsSmall, kept_of, IsOnlyStep, if_known, ReaderActivity, ReaderState, parts_of, IsReplyKeeping, keeping, IfSome, take, Contains, Unknown, VendDenied, ReplyStep, Facts}
use Rattle.mdb_cashless.proofs.Knowing.{OfFront, replies_fronts}

-- a list has these steps besides those of another
abbrev pub Adds : {State : Type 0} → List (State × Gains) → List (State × Gains)
    → (State → Gains → Type 0) → Type 0
Adds {State} old new Step = (after : State) (gains : Gains)
    → Contains new (after, gains) ↔ (Contains old (after, gains) ⊎ Step after gains)

abbrev pub AreSmall : {State : Type 0} → List (State × Gains) → Type 0
AreSmall {State} steps =
    (after : State) (gains : Gains) → Contains steps (after, gains) → IsSmall gains

-- nothing is among none
pub none_among : {X : Type 0} (xs : List X) (x : X) → length xs ≡ 0 → Contains xs x → ⊥
none_among xs x none among = omega (arith, none, among.1)

module _ {State : Type 0} where
  pub adds_as : (old new : List (State × Gains)) (Step Other : State → Gains → Type 0)
      → Adds old new Step → ((after : State) (gains : Gains) → Step after gains ↔ Other after gains)
      → Adds old new Other
  adds_as old new Step Other adds is after gains =
      let has = adds after gains in let step = is after gains in grind arith

  -- an answer is the only step, if there is one
  pub adds_one : (old new : List (State × Gains)) (Step : State → Gains → Type 0)
      (found : Option (State × Gains)) → IsOnlyStep Step found
      → Adds old new (λ after gains. found ≡ Some (after, gains)) → Adds old new Step
  adds_one old new Step None only adds =
      adds_as old new _ Step adds (λ after gains. grind (arith, only after gains))
  adds_one old new Step (Some one) only adds =
      adds_as old new _ Step adds (λ after gains. grind (arith, only.0, only.1))

  pub small_one : (old new : List (State × Gains)) (found : Option (State × Gains)) → AreSmall old
      → IfSome found (λ step. IsSmall step.1)
      → Adds old new (λ after gains. found ≡ Some (after, gains)) → AreSmall new
  small_one old new found were small adds after gains among = elim ((adds after gains).0 among) [
    | inl was ↦ were after gains was
    | inr e ↦ rw e at small
  ]

  pub none_small : (old : List (State × Gains)) → length old ≡ 0 → AreSmall old
  none_small old none after gains among = absurd (none_among old (after, gains) none among)

  -- steps added to none
  pub adds_first : (old new : List (State × Gains)) (Step Other : State → Gains → Type 0)
      → length old ≡ 0 → Adds old new Step
      → ((after : State) (gains : Gains) → Step after gains ↔ Other after gains)
      → (after : State) (gains : Gains) → Contains new (after, gains) ↔ Other after gains
  adds_first old new Step Other none adds is after gains =
      let has = adds after gains in let step = is after gains in grind arith

  -- steps added to none, and others to these
  pub adds_two : (old mid new : List (State × Gains)) (One Two : State → Gains → Type 0)
      → Adds old mid One → Adds mid new Two
      → Adds old new (λ after gains. One after gains ⊎ Two after gains)
  adds_two old mid new One Two first second after gains =
      let had = first after gains in let has = second after gains in grind arith

module _ (facts : Facts) (command : ReaderCommand) (reply : Reply) (choice : Choice)
    (before : ReaderState) where
  -- a reply after this kept list, and after fronts of it
  abbrev Keeping : List ReaderActivity → ReaderState → Gains → Type 0
  Keeping list = ReplyStep (keeping facts list) command reply choice before

  abbrev Fronts : List ReaderActivity → ℕ → ReaderState → Gains → Type 0
  Fronts kept count = OfFront facts kept count command reply choice before

  -- no front is the last kept list, and one more is
  pub no_front : (old : List (ReaderState × Gains)) (kept : List ReaderActivity)
      → Adds old old (Fronts kept 0)
  no_front old kept after gains = (
    λ among. inl among,
    λ either. elim either [ inl was ↦ was | inr front ↦ absurd (omega (arith, front.1)) ],
  )

  pub one_front : (old mid new : List (ReaderState × Gains)) (kept : List ReaderActivity) (last : ℕ)
      → Adds old mid (Fronts kept last) → Adds mid new (Keeping (take (last + 1) kept))
      → Adds old new (Fronts kept (last + 1))
  one_front old mid new kept last first second = adds_as old new
      (λ after gains. Fronts kept last after gains ⊎ Keeping (take (last + 1) kept) after gains)
      (Fronts kept (last + 1)) (adds_two old mid new _ _ first second) (λ after gains. (
        λ either. elim either [
          | inl front ↦ (front.0, omega (arith, front.1), front.2)
          | inr step ↦ (last, omega arith, step)
        ],
        λ front. elim (eq-or-lt_of_le {n = front.0} {m = last} (omega (arith, front.1))) [
          | inl same ↦ inr (rw same at front.2)
          | inr few ↦ inl (front.0, few, front.2)
        ],
      ))

  -- all fronts were found, and a list that is none of them
  pub fronts_found : (old first final : List (ReaderState × Gains)) (kept : List ReaderActivity)
      (last : ℕ) → kept ≡ kept_of (parts_of reply) → last ≡ length kept
      → Adds old first (Keeping (VendDenied ∷ [])) → Adds first final (Fronts kept last)
      → Adds old final (IsReplyKeeping facts Unknown command reply choice before)
  fronts_found old first final kept last is all one more = adds_as old final
      (λ after gains. Keeping (VendDenied ∷ []) after gains
      ⊎ Fronts (kept_of (parts_of reply)) (length (kept_of (parts_of reply))) after gains)
      (IsReplyKeeping facts Unknown command reply choice before)
      (adds_two old first final _ _ one (rw (all, is) at more))
      (replies_fronts facts command reply choice before)

  -- a reply where the last kept list is known
  pub keeps_known : (knows : Bool) (after : ReaderState) (gains : Gains) → knows ≡ true
      → ReplyStep facts command reply choice before after gains
      ↔ IsReplyKeeping facts (if_known knows facts.past.last_kept) command reply choice before after
      gains
  keeps_known knows after gains known =
      rw known (λ step. (facts.past.last_kept, refl, step), λ some. rw some.1 at some.2)
