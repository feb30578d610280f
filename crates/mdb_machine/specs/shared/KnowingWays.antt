-- Steps where not all is known, from steps after facts: there are facts that may be, and what holds
-- of the steps after any holds of these. This proves laws of the trait `Pair` and of machines.
use Rattle.std.specs.Prelude.{◌≡◌, ◌↔◌, Bool, true, false, List, [], ◌∷◌, Option, Some, None, refl}
use Rattle.std.proofs.Common.{◌∙◌}
use Rattle.mdb_bus.specs.declared.act.Act.{Act}
use Rattle.mdb_machine.specs.declared.choice.Choice.{Choice}
use Rattle.mdb_machine.specs.declared.gains.Gains.{Gains}
use Rattle.mdb_machine.specs.Keeper.{AllowsFacts, Facts, KnownFacts, Tables}
use Rattle.mdb_machine.specs.KeeperConduct.{Conduct, KeeperStep, StepKnowing}
use Rattle.mdb_bus.specs.declared.act.Act.TheVariants as acts
use Rattle.mdb_bus.specs.declared.scope.Beginning.{Beginning}
use Rattle.mdb_bus.specs.declared.scope.Beginning.TheVariants.{PowerOn, Joined}
use Rattle.mdb_bus.specs.declared.scope.Profile.{Profile}
use Rattle.mdb_machine.specs.KeeperValues.{settled}
use Rattle.mdb_machine.specs.PastValues.{if_known}
use Rattle.mdb_machine.specs.Machine.{StartsIn}
use Rattle.mdb_machine.specs.Known.{Allows, AllowsKept, Known, Unknown, Is, known_by}
use Rattle.mdb_machine.specs.Gains.{Stays}

-- a machine may start in its power-on state, wherever a recording begins
pub starts_in : {State : Type 0} (power_on : State) (begins : Beginning) (state : State)
    → state ≡ power_on → StartsIn power_on begins state
starts_in power_on (PowerOn profile) state is = is
starts_in power_on (Joined setups profile) state is = tt

-- from power-on all is known
pub all_known : {X : Type 0} (profile : Profile) (none : X) (told : Option X)
    → (x : X) × (known_by (PowerOn profile) none told ≡ Is x)
all_known profile none (Some x) = (x, refl)
all_known profile none None = (none, refl)

pub knows : {X : Type 0} (knows : Bool) (x : X) (known : Known X) → if_known knows x ≡ known
    → (y : X) × (known ≡ Is y) → knows ≡ true
knows true x known same is = refl
knows false x known same is = absurd (not_is (same ∙ is.1))
  where
    not_is : {X : Type 0} {y : X} → Unknown ≡ Is y → ⊥
    not_is same = cc

pub all_settled : {Own Setup Asked M : Type 0} (tables : Tables Own Setup Asked M) (act : Act)
    → settled tables true true act ≡ true
all_settled tables (acts.Ask c) = refl
all_settled tables (acts.Reply c r) = refl
all_settled tables act = refl

some_asked : {X : Type 0} (known : Known (Option X)) → (x : Option X) × Allows known x
some_asked Unknown = (None, tt)
some_asked (Is x) = (x, refl)

some_kept : {M : Type 0} → M → (known : Known (List M)) (holds : Bool)
    → (kept : List M) × AllowsKept known holds kept
some_kept message Unknown holds = (message ∷ [], λ held empty. absurd cc)
some_kept message (Is kept) holds = (kept, refl)

-- there are facts that may be
pub some_facts : {Setup Asked M : Type 0} → M → (known : KnownFacts Setup Asked M) (holds : Bool)
    → (facts : Facts Setup Asked M) × AllowsFacts known holds facts
some_facts message known holds =
    let asked = some_asked known.last_asked in
    let kept = some_kept message known.past.last_kept holds in (
      record {
        setup = known.setup;
        last_asked = asked.0;
        enabled = known.enabled;
        past = record { reset_owed = known.past.reset_owed; last_kept = kept.0 };
      },
      record {
        setup = refl;
        last_asked = asked.1;
        enabled = refl;
        past = record { reset_owed = refl; last_kept = kept.1 };
      },
    )

-- where a step after any facts changes nothing, so does one where not all is known
pub stays : {Own Setup Asked M State : Type 0} → M → (tables : Tables Own Setup Asked M)
    (conduct : Conduct Own Setup Asked M State) (known : KnownFacts Setup Asked M) (act : Act)
    (choice : Choice) (before after : State) (gains : Gains)
    → ((facts : Facts Setup Asked M)
    → KeeperStep tables conduct facts act choice before after gains ↔ Stays before after gains)
    → StepKnowing tables conduct known act choice before after gains ↔ Stays before after gains
stays message tables conduct known act choice before after gains each = (
  λ step. (each step.facts).0 step.step,
  λ same.
      let some = some_facts message known (conduct.holds before) in
      record { facts = some.0; allowed = some.1; step = (each some.0).1 same },
)

-- where a step after any facts is one under another choice, so is one where not all is known
pub as_choice : {Own Setup Asked M State : Type 0} (tables : Tables Own Setup Asked M)
    (conduct : Conduct Own Setup Asked M State) (known : KnownFacts Setup Asked M) (act : Act)
    (choice other : Choice) (before after : State) (gains : Gains)
    → ((facts : Facts Setup Asked M) → KeeperStep tables conduct facts act choice before after gains
    → KeeperStep tables conduct facts act other before after gains)
    → StepKnowing tables conduct known act choice before after gains
    → StepKnowing tables conduct known act other before after gains
as_choice tables conduct known act choice other before after gains each step =
    record { facts = step.facts; allowed = step.allowed; step = each step.facts step.step }
