-- The ways that a DISPENSE may go in a recording that begins in mid-session.
use Rattle.mdb_cash.proofs.Words.{◌≡◌, ◌↔◌, ◌⊎◌, inl, inr, ℕ, Bool, true, false, List, [], ◌∷◌, Option, Some, None, refl, sym, ◌∙◌, if◌then◌else◌, eq-eqb, Changer, CashBox, ChangerState, Choice, Gains, dispensed_value, is_last, machine, any_asked, some_told}
use Rattle.mdb_msgs.specs.declared.command.ChangerCommand.TheVariants as changer
use Rattle.mdb_msgs.specs.declared.setups.Setups.{Setups}
use Rattle.mdb_bus.specs.declared.act.Act.{Act}
use Rattle.mdb_bus.specs.declared.act.Act.TheVariants as acts
use Rattle.mdb_bus.specs.declared.scope.Beginning.TheVariants.{Joined}
use Rattle.mdb_bus.specs.declared.scope.Profile.{Profile}
use Rattle.mdb_cash.specs.ChangerFacts.{tables}
use Rattle.mdb_machine.specs.Gains.{controller_gains, in_slots, no_gains}
use Rattle.mdb_machine.specs.MidSession.{AsksNone, facts_recorded}

module _ (setups : Setups) (profile : Profile) (so_far : List Act) (coins : ℕ) (choice : Choice)
    (before after : ChangerState) (gains : Gains) where
  -- the step, and what the controller pays out by it
  abbrev Asks : Type 0
  Asks = (machine (Joined setups profile)).Step so_far
      (acts.Ask (Changer (changer.Dispense coins))) choice before after gains

  abbrev paid : Gains
  paid = controller_gains (in_slots
      (0 ∷ dispensed_value (facts_recorded tables setups profile so_far).setup coins ∷ []))

  still_owed : before.dispense_owed ≡ true → record before { dispense_owed = true } ≡ before
  still_owed owed = rw (← owed) refl

  -- one that is owed may be the last one again
  pub owed_ways : AsksNone tables so_far → before.dispense_owed ≡ true
      → Asks ↔ (after ≡ before) × ((gains ≡ no_gains) ⊎ (gains ≡ paid))
  owed_ways none owed = (
    λ step. (
      step.step.0 ∙ still_owed owed,
      by (is_last step.facts.last_asked coins)
          (rw (owed, step.allowed.setup) at step.step.1),
    ),
    back,
  )
    where
      by : (again : Bool) → gains ≡ (if again then no_gains else paid)
          → (gains ≡ no_gains) ⊎ (gains ≡ paid)
      by true gained = inl gained
      by false gained = inr gained

      asking : (asked : Option ℕ) → after ≡ before
          → gains ≡ (if is_last asked coins then no_gains else paid) → Asks
      asking asked same gained =
          let some = any_asked tables setups profile so_far (CashBox 0) before.holds asked none in
          record {
            facts = some.0;
            allowed = some.1;
            step = (same ∙ sym (still_owed owed), rw (owed, some.3, some.2) gained);
          }

      back : (after ≡ before) × ((gains ≡ no_gains) ⊎ (gains ≡ paid)) → Asks
      back (same, inl gained) = asking (Some coins) same (rw (eq-eqb coins coins refl) gained)
      back (same, inr gained) = asking None same gained

  -- one that isn't owed is new
  pub free_way : before.dispense_owed ≡ false
      → Asks ↔ (after ≡ record before { dispense_owed = true }) × (gains ≡ paid)
  free_way free = (
    λ step. (step.step.0, rw (free, step.allowed.setup) at step.step.1),
    λ way.
        let some = some_told tables setups profile so_far (CashBox 0) before.holds in
        record {
          facts = some.0;
          allowed = some.1;
          step = (way.0, rw (free, some.2) way.1);
        },
  )
