-- Steps of a reader where not all is known, from steps after facts: there are facts that may be,
-- and what holds of the steps after any holds of these. This proves laws of the trait `Pair`.
use Rattle.std.specs.Prelude.{◌≡◌, ◌↔◌, Bool, true, false, List, [], ◌∷◌, Option, Some, None, refl, unwrap_or}
use Rattle.std.proofs.Common.{ap}
use Rattle.mdb_bus.specs.declared.act.Act.{Act}
use Rattle.mdb_bus.specs.declared.act.Act.TheVariants as acts
use Rattle.mdb_bus.specs.declared.scope.Beginning.{Beginning}
use Rattle.mdb_bus.specs.declared.scope.Beginning.TheVariants.{PowerOn, Joined}
use Rattle.mdb_bus.specs.declared.scope.Profile.{Profile}
use Rattle.mdb_machine.specs.declared.choice.Choice.{Choice}
use Rattle.mdb_machine.specs.declared.gains.Gains.{Gains}
use Rattle.mdb_machine.specs.Known.{Allows, AllowsKept, Known, Unknown, Is, known_by}
use Rattle.mdb_machine.specs.Machine.{StartsIn}
use Rattle.mdb_machine.specs.Gains.{Stays}
use Rattle.mdb_machine.specs.PastValues.{if_known}
use Rattle.mdb_msgs.specs.declared.command.ReaderUnit.{ReaderUnit}
use Rattle.mdb_cashless.specs.declared.reader.known.ReaderKnown.{ReaderKnown}
use Rattle.mdb_cashless.specs.declared.reader.messages.ReaderActivity.{ReaderActivity}
use Rattle.mdb_cashless.specs.declared.reader.messages.ReaderActivity.TheVariants.{VendDenied}
use Rattle.mdb_cashless.specs.declared.reader.state.ReaderState.{ReaderState}
use Rattle.mdb_cashless.specs.Reader.{ReaderStep, StepKnowing, power_on}
use Rattle.mdb_cashless.specs.ReaderFacts.{AllowsFacts, Facts, KnownFacts, known_of}
use Rattle.mdb_cashless.specs.ReaderValues.{known_in, settled}

-- a reader may start in its power-on state, wherever a recording begins
pub starts_in : (begins : Beginning) (state : ReaderState) → state ≡ power_on
    → StartsIn power_on begins state
starts_in (PowerOn profile) state is = is
starts_in (Joined setups profile) state is = tt

-- there are facts that may be
some_of : {X : Type 0} (known : Known (Option X)) → (x : Option X) × Allows known x
some_of Unknown = (None, tt)
some_of (Is x) = (x, refl)

some_kept : (known : Known (List ReaderActivity)) (holds : Bool)
    → (kept : List ReaderActivity) × AllowsKept known holds kept
some_kept Unknown holds = (VendDenied ∷ [], λ held empty. absurd cc)
some_kept (Is kept) holds = (kept, refl)

pub some_facts : (known : KnownFacts) (holds : Bool)
    → (facts : Facts) × AllowsFacts known holds facts
some_facts known holds =
    let asked = some_of known.asked in
    let taken = some_of known.taken in
    let kept = some_kept known.past.last_kept holds in (
      record {
        config = known.config;
        asked = asked.0;
        taken = taken.0;
        amount = unwrap_or known.amount 0;
        past = record { reset_owed = known.past.reset_owed; last_kept = kept.0 };
      },
      record {
        config = refl;
        asked = asked.1;
        taken = taken.1;
        amount = refl;
        past = record { reset_owed = refl; last_kept = kept.1 };
      },
    )

-- where a step after any facts changes nothing, so does one where not all is known
pub stays : (unit : ReaderUnit) (known : KnownFacts) (act : Act) (choice : Choice)
    (before after : ReaderState) (gains : Gains)
    → ((facts : Facts)
    → ReaderStep unit facts act choice before after gains ↔ Stays before after gains)
    → StepKnowing unit known act choice before after gains ↔ Stays before after gains
stays unit known act choice before after gains each = (
  λ step. (each step.facts).0 step.step,
  λ same.
      let some = some_facts known before.holds in
      record { facts = some.0; allowed = some.1; step = (each some.0).1 same },
)

-- where a step after any facts is one under another choice, so is one where not all is known
pub as_choice : (unit : ReaderUnit) (known : KnownFacts) (act : Act) (choice other : Choice)
    (before after : ReaderState) (gains : Gains)
    → ((facts : Facts) → ReaderStep unit facts act choice before after gains
    → ReaderStep unit facts act other before after gains)
    → StepKnowing unit known act choice before after gains
    → StepKnowing unit known act other before after gains
as_choice unit known act choice other before after gains each step =
    record { facts = step.facts; allowed = step.allowed; step = each step.facts step.step }

-- from power-on all is known
pub all_known : {X : Type 0} (profile : Profile) (knows : Bool) (x none : X) (told : Option X)
    → if_known knows x ≡ known_by (PowerOn profile) none told → knows ≡ true
all_known profile true x none told same = refl
all_known profile false x none (Some y) same = absurd cc
all_known profile false x none None same = absurd cc

settles : (unit : ReaderUnit) (known : ReaderKnown) (act : Act) → known.knows_asked ≡ true
    → known.knows_taken ≡ true → known.knows_kept ≡ true → settled unit known act ≡ true
settles unit known (acts.Ask command) asked taken kept = rw asked refl
settles unit known (acts.Ack command) asked taken kept = rw taken refl
settles unit known (acts.Reply command reply) asked taken kept = rw (taken, kept) refl
settles unit known act asked taken kept = refl

pub settled_from_power_on : (unit : ReaderUnit) (profile : Profile) (known : ReaderKnown)
    (so_far : List Act) (act : Act) → known_in known ≡ known_of (PowerOn profile) unit so_far
    → settled unit known act ≡ true
settled_from_power_on unit profile known so_far act is = settles unit known act
    (all_known profile known.knows_asked _ None _ (ap (λ (k : KnownFacts). k.asked) is))
    (all_known profile known.knows_taken _ None _ (ap (λ (k : KnownFacts). k.taken) is))
    (all_known profile known.knows_kept _ [] _ (ap (λ (k : KnownFacts). k.past.last_kept) is))
