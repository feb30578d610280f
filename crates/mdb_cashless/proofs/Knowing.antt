-- The facts that may be are those that are kept, with guesses of what isn't known.
use Rattle.mdb_cashless.proofs.Words.{common_steps, ◌≡◌, ◌≢◌, ◌⊎◌, ◌↔◌, ◌<◌, ◌+◌, ◌&&◌, ◌||◌, ℕ, Bool, true, false, List, [], ◌∷◌, length, Option, Some, None, refl, if◌then◌else◌, arith, sym, inl, inr, is_none, ReaderCommand, ReaderUnit, Reply, Act, Choice, Gains, IsNew, held, kept_of, Allows, AllowsKept, IsOnlyStep, if_known, ReaderKnown, ReaderActivity, ReaderState, Transaction, parts_of, transaction_of, own, IsReplyKeeping, OfSome, again, keeping, add-one, StepKnowing, is_poll, AllowsFacts, KnownFacts, own_transaction, take, Unknown, VendDenied, AckStep, AskStep, ReaderStep, ReplyStep, VmcAckStep, before_messages, taken, Facts, facts_in, known_in, settled, own_as}
use Rattle.mdb_cashless.proofs.Guesses.{Alike, Meets, ack_with, alike, ask_with, either_meets, fronts, held_before, meets_itself, reply_with, same_repeats}

-- A settled act's step depends on known facts: with one guess it is one with any that may be.
abbrev pub Same : ReaderUnit → Facts → Facts → Act → Type 0
Same unit one other (Act.Ask command) = (its : ReaderCommand) → own unit command ≡ Some its
    → (other.asked ≡ one.asked) ⊎ (transaction_of its ≡ None)
Same unit one other (Act.Ack command) = (its : ReaderCommand) → own unit command ≡ Some its
    → (other.taken ≡ one.taken) ⊎ (transaction_of its ≡ None)
Same unit one other (Act.Reply command reply) = (its : ReaderCommand)
    → own unit command ≡ Some its
    → (other.taken ≡ one.taken) × (other.past.last_kept ≡ one.past.last_kept)
Same unit one other act = Unit {0}

same_back : (unit : ReaderUnit) (one other : Facts) (act : Act) → Same unit one other act
    → Same unit other one act
same_back unit one other (Act.Ask command) same = λ its is. let e = same its is in grind arith
same_back unit one other (Act.Ack command) same = λ its is. let e = same its is in grind arith
same_back unit one other (Act.Reply command reply) same =
    λ its is. (sym (same its is).0, sym (same its is).1)
same_back unit one other act same = tt

module _ (unit : ReaderUnit) (choice : Choice) (before after : ReaderState) (gains : Gains) where
  step_same : (one other : Facts) → Alike one other → (act : Act) → Same unit one other act
      → ReaderStep unit one act choice before after gains
      → ReaderStep unit other act choice before after gains
  step_same one other like (Act.Ask command) same =
      own_as (own unit command) (AskStep one) (AskStep other) before after gains
      (λ its is. ask_with one other like its before after gains (inl (same its is)))
  step_same one other like (Act.Ack command) same =
      own_as (own unit command) (λ its. AckStep one its choice) (λ its. AckStep other its choice)
      before after gains (λ its is. ack_with one other like its choice before after gains
      (same_repeats one other like (transaction_of its) (same its is)))
  step_same one other like (Act.Reply command reply) same =
      own_as (own unit command) (λ its. ReplyStep one its reply choice)
      (λ its. ReplyStep other its reply choice) before after gains
      (λ its is step. reply_with one other like its reply choice before after gains
      (meets_itself (own_transaction (taken its reply)) (same its is).0) step
      (rw (same its is).1 step.has_news.new))
  step_same one other like (Act.VmcAck command reply) same =
      own_as (own unit command) (λ its. VmcAckStep one its reply choice)
      (λ its. VmcAckStep other its reply choice) before after gains
      (λ its is step. record { to = step.to; gained = rw like.0 step.gained })
  step_same one other like act same = λ step. step

  -- so a step that is settled by what is kept is one by what is known
  pub settled_steps : {known : KnownFacts} (base : Facts) (kept : List ReaderActivity)
      → AllowsFacts known before.holds (keeping base kept) → (act : Act)
      → ((facts : Facts) → AllowsFacts known before.holds facts → Same unit base facts act)
      → StepKnowing unit known act choice before after gains
      ↔ ReaderStep unit base act choice before after gains
  settled_steps base kept allowed act same = (
    λ step. step_same step.facts base (alike step.allowed allowed) act
        (same_back unit base step.facts act (same step.facts step.allowed)) step.step,
    λ step. record {
      facts = keeping base kept;
      allowed = allowed;
      step = step_same base (keeping base kept) (refl, refl, refl) act (same _ allowed) step;
    },
  )

-- an ask, where it isn't known what was asked last
pub asks_any : {known : KnownFacts} (base : Facts) (kept : List ReaderActivity)
    (command : ReaderCommand) (before after : ReaderState) (gains : Gains)
    → base.asked ≡ transaction_of command → AllowsFacts known before.holds (keeping base kept)
    → AskStep base command before after gains
    ↔ OfSome known before.holds (λ facts. AskStep facts command before after gains)
asks_any base kept command before after gains is allowed = (
  λ step. (
    keeping base kept,
    allowed,
    ask_with base (keeping base kept) (refl, refl, refl) command before after gains
        (inl (inl refl)) step,
  ),
  λ some. ask_with some.0 base (alike some.1 allowed) command before after gains (inr is) some.2,
)

-- what is kept may be, where it is known, and anything where it isn't
itself_allowed : {X : Type 0} (knows : Bool) (x : X) → Allows (if_known knows x) x
itself_allowed knows x = grind arith

any_allowed : {X : Type 0} (knows : Bool) (x y : X) → knows ≡ false → Allows (if_known knows x) y
any_allowed knows x y unknown = rw unknown tt

some_allowed : (knows : Bool) (kept : List ReaderActivity) (holds : Bool)
    → AllowsKept (if_known knows kept) holds (if knows then kept else VendDenied ∷ [])
some_allowed true kept holds = refl
some_allowed false kept holds = λ held empty. absurd cc

settles_one : (knows : Bool) (found : Option ReaderCommand) (x y : Option Transaction)
    → (knows || is_none (own_transaction found)) ≡ true → Allows (if_known knows x) y
    → (its : ReaderCommand) → found ≡ Some its → (y ≡ x) ⊎ (transaction_of its ≡ None)
settles_one knows found x y settles allows its is = grind (arith, common_steps)

settles_both : (taken kept : Bool) (found : Option ReaderCommand) (x y : Option Transaction)
    (k l : List ReaderActivity) (holds : Bool) → ((taken && kept) || is_none found) ≡ true
    → Allows (if_known taken x) y → AllowsKept (if_known kept k) holds l
    → (its : ReaderCommand) → found ≡ Some its → (y ≡ x) × (l ≡ k)
settles_both taken kept found x y k l holds settles one other its is = grind (arith, common_steps)

module _ (known : ReaderKnown) where
  abbrev base : Facts
  base = facts_in known.facts

  abbrev a_list : List ReaderActivity
  a_list = if known.knows_kept then base.past.last_kept else VendDenied ∷ []

  -- facts that may be
  allowed : (holds : Bool) (a t : Option Transaction) (k : List ReaderActivity)
      → Allows (if_known known.knows_asked base.asked) a
      → Allows (if_known known.knows_taken base.taken) t
      → AllowsKept (if_known known.knows_kept base.past.last_kept) holds k
      → AllowsFacts (known_in known) holds (keeping (record base { asked = a; taken = t }) k)
  allowed holds a t k asked taken kept = record {
    config = refl;
    asked = asked;
    taken = taken;
    amount = refl;
    past = record { reset_owed = refl; last_kept = kept };
  }

  its_asked : Allows (if_known known.knows_asked base.asked) base.asked
  its_asked = itself_allowed known.knows_asked base.asked

  its_taken : Allows (if_known known.knows_taken base.taken) base.taken
  its_taken = itself_allowed known.knows_taken base.taken

  its_kept : (holds : Bool)
      → AllowsKept (if_known known.knows_kept base.past.last_kept) holds a_list
  its_kept = some_allowed known.knows_kept base.past.last_kept

  module _ (before after : ReaderState) (gains : Gains) where
    abbrev Some_of : (Facts → Type 0) → Type 0
    Some_of Holds = OfSome (known_in known) before.holds Holds

    -- an ask, where it isn't known what was asked last
    pub asks_some : (command : ReaderCommand) → known.knows_asked ≡ false
        → AskStep (record base { asked = transaction_of command }) command before after gains
        ↔ Some_of (λ facts. AskStep facts command before after gains)
    asks_some command unknown =
        asks_any (record base { asked = transaction_of command }) a_list command before after gains
        refl (allowed before.holds (transaction_of command) base.taken a_list
        (any_allowed known.knows_asked base.asked _ unknown) its_taken (its_kept before.holds))

    -- where it isn't known which transaction the reader took last, two guesses are enough
    module _ (Holds : Facts → Type 0) (its : Option Transaction) (Way : Option Transaction → Type 0)
        (one : (t : Option Transaction) → Allows (if_known known.knows_taken base.taken) t
        → Way t → Some_of Holds)
        (way : (some : Some_of Holds) → Alike some.0 base → (t : Option Transaction)
        → Meets its some.0.taken t → Way t) where
      ways : (some : Some_of Holds) (t : Option Transaction) → Meets its some.0.taken t
          → Way t
      ways some = way some (sym some.1.config, sym some.1.amount, sym some.1.past.reset_owed)

      two_guesses : known.knows_taken ≡ false
          → Way None ⊎ Way (Some (again its)) ↔ Some_of Holds
      two_guesses unknown = (
        λ either. elim either [
          | inl step ↦ one None (any_allowed known.knows_taken base.taken _ unknown) step
          | inr step ↦ one (Some (again its))
              (any_allowed known.knows_taken base.taken _ unknown) step
        ],
        λ some. elim (either_meets its some.0.taken) [
          | inl meets ↦ inl (ways some None meets)
          | inr meets ↦ inr (ways some (Some (again its)) meets)
        ],
      )

      one_guess : known.knows_taken ≡ true → Way base.taken ↔ Some_of Holds
      one_guess knows = (
        one base.taken its_taken,
        λ some.
            let same : some.0.taken ≡ base.taken = rw knows at some.1.taken in
            ways some base.taken (meets_itself its (sym same)),
      )

    -- an ACK
    module _ (command : ReaderCommand) (choice : Choice) where
      abbrev Acks : Facts → Type 0
      Acks facts = AckStep facts command choice before after gains

      pub acks_some : known.knows_taken ≡ false → Acks (record base { taken = None })
          ⊎ Acks (record base { taken = Some (again (transaction_of command)) }) ↔ Some_of Acks
      acks_some = two_guesses Acks (transaction_of command) (λ t. Acks (record base { taken = t }))
          (λ t may step. let taking : Facts = record base { taken = t } in (
            keeping taking a_list,
            allowed before.holds base.asked t a_list its_asked may (its_kept before.holds),
            ack_with taking (keeping taking a_list) (refl, refl, refl) command choice before after
                gains (λ holds. refl) step,
          )) (λ some like t meets. ack_with some.0 (record base { taken = t }) like command choice
          before after gains meets.repeated some.2)

    -- a reply
    module _ (command : ReaderCommand) (reply : Reply) (choice : Choice) where
      abbrev Replies : Facts → Type 0
      Replies facts = ReplyStep facts command reply choice before after gains

      abbrev its : Option Transaction
      its = own_transaction (taken command reply)

      abbrev Keeps : Option Transaction → Type 0
      Keeps t = IsReplyKeeping (record base { taken = t })
          (if_known known.knows_kept base.past.last_kept) command reply choice before after gains

      keeps_one : (t : Option Transaction) → Allows (if_known known.knows_taken base.taken) t
          → Keeps t → Some_of Replies
      keeps_one t may step = (
        keeping (record base { taken = t }) step.0,
        allowed before.holds base.asked t step.0 its_asked may step.1,
        step.2,
      )

      keeps_with : (some : Some_of Replies) → Alike some.0 base → (t : Option Transaction)
          → Meets its some.0.taken t → Keeps t
      keeps_with some like t meets = (
        some.0.past.last_kept,
        some.1.past.last_kept,
        reply_with some.0 (keeping (record base { taken = t }) some.0.past.last_kept) like command
            reply choice before after gains meets some.2 some.2.has_news.new,
      )

      pub replies_some : known.knows_taken ≡ false
          → Keeps None ⊎ Keeps (Some (again its)) ↔ Some_of Replies
      replies_some = two_guesses Replies its Keeps keeps_one keeps_with

      pub replies_known : known.knows_taken ≡ true → Keeps base.taken ↔ Some_of Replies
      replies_known = one_guess Replies its Keeps keeps_one keeps_with

  -- an act that is settled
  settled_same : (unit : ReaderUnit) (act : Act) → settled unit known act ≡ true → (holds : Bool)
      (facts : Facts) → AllowsFacts (known_in known) holds facts → Same unit base facts act
  settled_same unit (Act.Ask command) is holds facts may =
      settles_one known.knows_asked (own unit command) base.asked facts.asked is may.asked
  settled_same unit (Act.Ack command) is holds facts may =
      settles_one known.knows_taken (own unit command) base.taken facts.taken is may.taken
  settled_same unit (Act.Reply command reply) is holds facts may =
      settles_both known.knows_taken known.knows_kept (own unit command) base.taken facts.taken
      base.past.last_kept facts.past.last_kept holds is may.taken may.past.last_kept
  settled_same unit act is holds facts may = tt

  module _ (unit : ReaderUnit) (act : Act) (choice : Choice) (before : ReaderState) where
    settled_step : settled unit known act ≡ true → (after : ReaderState) (gains : Gains)
        → StepKnowing unit (known_in known) act choice before after gains
        ↔ ReaderStep unit base act choice before after gains
    settled_step is after gains = settled_steps unit choice before after gains base a_list
        (allowed before.holds base.asked base.taken a_list its_asked its_taken
        (its_kept before.holds)) act (settled_same unit act is before.holds)

    pub settled_only : (found : Option (ReaderState × Gains)) → settled unit known act ≡ true
        → IsOnlyStep (ReaderStep unit base act choice before) found
        → IsOnlyStep (StepKnowing unit (known_in known) act choice before) found
    settled_only None is only =
        λ after gains step. only after gains ((settled_step is after gains).0 step)
    settled_only (Some one) is only = (
      (settled_step is one.0 one.1).1 only.0,
      λ after gains step. only.1 after gains ((settled_step is after gains).0 step),
    )

-- An unknown last kept list is a front of the reply's, of at most so many messages, or none of it.
abbrev pub OfFront : Facts → List ReaderActivity → ℕ → ReaderCommand → Reply → Choice → ReaderState
    → ReaderState → Gains → Type 0
OfFront facts kept count command reply choice before after gains =
    (n : ℕ) × (n < count) × ReplyStep (keeping facts (take (n + 1) kept)) command reply choice
    before after gains

front_some : {M : Type 0} (n : ℕ) (kept : List M) → n < length kept → take (n + 1) kept ≢ []
front_some n [] few = λ empty. omega (arith, few)
front_some n (x ∷ kept) few = rw add-one (λ empty. cc)

module _ (facts : Facts) (command : ReaderCommand) (reply : Reply) (choice : Choice)
    (before after : ReaderState) (gains : Gains) where
  abbrev Keeping : List ReaderActivity → Type 0
  Keeping list = ReplyStep (keeping facts list) command reply choice before after gains

  pub replies_fronts : let kept = kept_of (parts_of reply) in
      Keeping (VendDenied ∷ []) ⊎ OfFront facts kept (length kept) command reply choice before after
      gains ↔ IsReplyKeeping facts Unknown command reply choice before after gains
  replies_fronts = (forth, back)
    where
      kept : List ReaderActivity
      kept = kept_of (parts_of reply)

      forth : Keeping (VendDenied ∷ [])
          ⊎ OfFront facts kept (length kept) command reply choice before after gains
          → IsReplyKeeping facts Unknown command reply choice before after gains
      forth (inl step) = (VendDenied ∷ [], λ held empty. absurd cc, step)
      forth (inr step) = (take (step.0 + 1) kept, λ held. front_some step.0 kept step.1, step.2)

      with_list : (last list : List ReaderActivity) (step : Keeping last) → IsNew (is_poll command)
          (held (before_messages (keeping facts last) command reply choice before).holds list) kept
          step.news → Keeping list
      with_list last list step = reply_with (keeping facts last) (keeping facts list)
          (refl, refl, refl) command reply choice before after gains
          (meets_itself (own_transaction (taken command reply)) refl) step

      back : IsReplyKeeping facts Unknown command reply choice before after gains
          → Keeping (VendDenied ∷ [])
          ⊎ OfFront facts kept (length kept) command reply choice before after gains
      back some =
          elim (fronts VendDenied (is_poll command) _ some.0 kept some.2.news
          (λ holds. some.1 (held_before (keeping facts some.0) command reply choice before holds))
          some.2.has_news.new) [
            | inl new ↦ inl (with_list some.0 (VendDenied ∷ []) some.2 new)
            | inr found ↦ inr (
              found.0,
              found.1,
              with_list some.0 (take (found.0 + 1) kept) some.2
                  (rw add-one found.2),
            )
          ]
