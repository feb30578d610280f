-- From power-on all is known of a reader.
use Rattle.mdb_cashless.proofs.Words.{and-true, common_steps, arith, ◌≡◌, ◌∙◌, ◌↔◌, Bool, List, [], ◌∷◌, Option, Some, None, refl, ap, sym, unwrap_or, if◌then◌else◌, ReaderUnit, Act, PowerOn, Profile, Is, known_by, last_list, last_told, or_else, Choice, Gains, ReaderState, known_of, Transaction, same_past, StepKnowing, AllowsFacts, KnownFacts, asked_by, config_by, ends_transactions, parts_by, taken_told, transaction_taken_by, last_taken, option_map, ReaderStep, Facts, facts_of}
use Rattle.mdb_cashless.proofs.Said.{or_none}

-- all that acts tell is known
known_is : {X : Type 0} (profile : Profile) (none : X) (told : Option X)
    → known_by (PowerOn profile) none told ≡ Is (unwrap_or told none)
known_is profile none told = grind (arith, common_steps)

told_is : {X : Type 0} (told : Option X)
    → unwrap_or (option_map (λ (x : X). Some x) told) None ≡ told
told_is told = grind (arith, common_steps)

one_taken : (ends : Bool) (its last : Option Transaction) (told : Option (Option Transaction))
    → last ≡ unwrap_or told None
    → (if ends then None else or_else its last)
    ≡ unwrap_or (or_else (if ends then Some None
    else option_map (λ (t : Transaction). Some t) its) told) None
one_taken ends its last told same = grind (arith, common_steps)

pub last_taken_is : (unit : ReaderUnit) (acts : List Act)
    → last_taken unit acts ≡ unwrap_or (last_told (taken_told unit) acts) None
last_taken_is unit [] = refl
last_taken_is unit (act ∷ acts) = one_taken (ends_transactions unit act)
    (transaction_taken_by unit act) (last_taken unit acts) (last_told (taken_told unit) acts)
    (last_taken_is unit acts)

-- facts with the same parts
same_facts : {one other : Facts} → one.config ≡ other.config → one.asked ≡ other.asked
    → one.taken ≡ other.taken → one.amount ≡ other.amount → one.past ≡ other.past → one ≡ other
same_facts config asked taken amount past = rw (config, asked, taken, amount, past) refl

module _ (unit : ReaderUnit) (profile : Profile) (so_far : List Act) where
  abbrev known : KnownFacts
  known = known_of (PowerOn profile) unit so_far

  -- what is known is each fact that the acts leave
  asked_known : known.asked ≡ Is (facts_of unit so_far).asked
  asked_known = known_is profile None _ ∙ ap Is (told_is (last_told (asked_by unit) so_far))

  taken_known : known.taken ≡ Is (facts_of unit so_far).taken
  taken_known = known_is profile None (last_told (taken_told unit) so_far)
      ∙ ap Is (sym (last_taken_is unit so_far))

  kept_known : known.past.last_kept ≡ Is (facts_of unit so_far).past.last_kept
  kept_known = known_is profile [] (last_list (parts_by unit) so_far)

  pub power_on_known : (holds : Bool) (facts : Facts)
      → AllowsFacts known holds facts ↔ (facts ≡ facts_of unit so_far)
  power_on_known holds facts =
      let config = or_none (last_told (config_by unit) so_far) in
      let owed = and-true (facts_of unit so_far).past.reset_owed in (
        λ is. same_facts (is.config ∙ config) (rw asked_known at is.asked)
            (rw taken_known at is.taken) is.amount
            (same_past (is.past.reset_owed ∙ owed) (rw kept_known at is.past.last_kept)),
        λ same. rw same (record {
          config = sym config;
          asked = rw asked_known refl;
          taken = rw taken_known refl;
          amount = refl;
          past = record { reset_owed = sym owed; last_kept = rw kept_known refl };
        }),
      )

  -- so a step is the one after the facts that the acts leave
  pub power_on_steps : (act : Act) (choice : Choice) (before after : ReaderState) (gains : Gains)
      → StepKnowing unit known act choice before after gains
      ↔ ReaderStep unit (facts_of unit so_far) act choice before after gains
  power_on_steps act choice before after gains = (
    λ step. rw ((power_on_known before.holds step.facts).0 step.allowed) at step.step,
    λ step. record {
      facts = facts_of unit so_far;
      allowed = (power_on_known before.holds (facts_of unit so_far)).1 refl;
      step = step;
    },
  )
