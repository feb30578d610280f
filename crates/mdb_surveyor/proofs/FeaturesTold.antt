-- Whose features are told, and what the next stretch knows of levels and features.
use Rattle.mdb_surveyor.proofs.Words.{common_steps, arith, refl, ap, ◌∙◌, ◌≡◌, Bool, true, false, if◌then◌else◌, List, [], ◌∷◌, Option, Some, None, Command, ReaderCommand, ReaderUnit, First, Second, Act, Beginning, Joined, Extended, Scope, first_levels, levels_before, profile_of, effect_taken, last_told, or_else, powers_on, resets, taken_by, Offence, Told, AreFeaturesTold, enables_features, features_told_by, scope_after, asked_on, levels_at, setups_on, told_after, told_on}
use Rattle.mdb_msgs.specs.declared.command.ReaderCommand.TheVariants as readers
use Rattle.mdb_bus.specs.declared.act.Act.TheVariants as acts
use Rattle.mdb_bus.specs.declared.features.KnownFeatures.{KnownFeatures}
use Rattle.mdb_bus.specs.ExtendedMoney.{first_known}
use Rattle.mdb_cashless.specs.ReaderFacts.{effect_of, own_of}
use Rattle.mdb_cashless.specs.Units.{own}
use Rattle.mdb_surveyor.specs.Features.{features_after, features_at, reader_told_by, told_taking}

-- whether a reader's features are told after an act
abbrev Flag : Bool → Option ReaderCommand → Bool → Bool
Flag powered command was =
    if powered then false else if enables_features command then true else was

module _ (unit : ReaderUnit) where
  own_flag : (command : Command) (of : Option ReaderCommand) → own unit command ≡ of → (was : Bool)
      → told_taking (own unit command) was
      ≡ Flag (resets (effect_of unit command)) (own unit command) was
  own_flag command None is was = rw is refl
  own_flag command (Some readers.Reset) is was = rw is refl
  own_flag command (Some (readers.EnableOptions list)) is was = rw is refl
  own_flag command (Some other) is was = rw is refl

  taken_flag : (taken : Option Command) (was : Bool) → told_taking (own_of unit taken) was
      ≡ Flag (resets (effect_taken (effect_of unit) taken)) (own_of unit taken) was
  taken_flag None was = refl
  taken_flag (Some command) was = own_flag command (own unit command) refl was

  flag_step : (act : Act) (was : Bool) → reader_told_by unit act was
      ≡ Flag (powers_on (effect_of unit) act) (own_of unit (taken_by act)) was
  flag_step (acts.Break length) was = refl
  flag_step act was = taken_flag (taken_by act) was

of_unit : (unit : ReaderUnit) (act : Act) (features : KnownFeatures)
    → features_at unit (features_after act features)
    ≡ reader_told_by unit act (features_at unit features)
of_unit First act features = refl
of_unit Second act features = refl

last_flag : (powered enabled was now : Bool) (later : Option Bool)
    → Some now ≡ or_else later (Some was)
    → Some (if powered then false else if enabled then true else now)
    ≡ or_else (or_else (if powered then Some false else if enabled then Some true else None) later)
    (Some was)
last_flag powered enabled was now later is = grind (arith, common_steps)

pub told_last : (begins : Beginning) (told : Told) (done : List Act) (unit : ReaderUnit)
    → AreFeaturesTold unit done (features_at unit told.features)
    (features_at unit (told_after begins told done).features)
told_last begins told [] unit = refl
told_last begins told (act ∷ done) unit =
    let now = features_at unit (told_after begins told done).features in
    ap Some (of_unit unit act (told_after begins told done).features ∙ flag_step unit act now)
    ∙ last_flag (powers_on (effect_of unit) act) (enables_features (own_of unit (taken_by act)))
    (features_at unit told.features) now (last_told (features_told_by unit) done)
    (told_last begins told done unit)

-- what the next stretch knows
module _ (told : Told) (fault : Offence) (asked : Option ReaderUnit) (scope : Scope)
    (extended : profile_of scope.begins ≡ Extended) where
  begins_so : (scope_after told fault asked scope).begins
      ≡ Joined (setups_on Extended told) Extended
  begins_so = ap (λ p. Joined (setups_on p told) p) extended

  knows : (unit : ReaderUnit) → levels_at unit (levels_before (scope_after told fault asked scope))
      ≡ record (levels_at unit told.levels) { asked = asked_on (levels_at unit told.levels) }
  knows First = ap (λ b. (first_levels b (scope_after told fault asked scope).levels).first)
      begins_so
  knows Second =
      ap (λ b. (first_levels b (scope_after told fault asked scope).levels).second) begins_so

  pub handed_on : (first_known (scope_after told fault asked scope).begins ≡ told.features)
      × ((unit : ReaderUnit)
      → levels_at unit (levels_before (scope_after told fault asked scope))
      ≡ record (levels_at unit told.levels) { asked = asked_on (levels_at unit told.levels) })
  handed_on = (ap first_known begins_so, knows)

  pub begun : (told_on (scope_after told fault asked scope).begins told).levels
      ≡ levels_before (scope_after told fault asked scope)
  begun = rw begins_so refl
