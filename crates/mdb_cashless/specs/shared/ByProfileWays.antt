-- The machine of a reader by either profile, from the machines of both. This proves laws of the
-- trait `Pair`.
use Rattle.std.specs.Prelude.{◌≡◌, ◌↔◌, ℕ, Bool, true, List, ◌∷◌, Option, Some, None, IfSome, IsSomeAnd, refl}
use Rattle.std.proofs.Common.{ap, subst, sym, ◌∙◌}
use Rattle.mdb_msgs.specs.declared.command.Device.{Device}
use Rattle.mdb_msgs.specs.declared.command.Device.TheVariants as devices
use Rattle.mdb_msgs.specs.declared.command.ReaderUnit.{ReaderUnit}
use Rattle.mdb_bus.specs.declared.act.Act.{Act}
use Rattle.mdb_bus.specs.declared.act.Act.TheVariants as acts
use Rattle.mdb_bus.specs.declared.scope.Beginning.{Beginning}
use Rattle.mdb_bus.specs.declared.scope.Beginning.TheVariants.{PowerOn, Joined}
use Rattle.mdb_bus.specs.declared.scope.Profile.{Profile}
use Rattle.mdb_bus.specs.declared.scope.Profile.TheVariants as profiles
use Rattle.mdb_bus.specs.Scopes.{profile_of}
use Rattle.mdb_machine.specs.declared.choice.Choice.{Choice}
use Rattle.mdb_machine.specs.declared.choice.Choice.TheVariants.{Plain, Restart, Again}
use Rattle.mdb_machine.specs.declared.gains.Gains.{Gains}
use Rattle.mdb_machine.specs.Gains.{Stays, no_gains}
use Rattle.mdb_machine.specs.Machine.{Machine, StartsIn}
use Rattle.mdb_machine.specs.Pair.{IsActOf, IsMachineOf}
use Rattle.mdb_cashless.specs.declared.approvals.state.ApprovalState.{ApprovalState}
use Rattle.mdb_cashless.specs.declared.by_profile.facts.KnownByProfile.{KnownByProfile}
use Rattle.mdb_cashless.specs.declared.by_profile.facts.KnownByProfile.TheVariants as values
use Rattle.mdb_cashless.specs.declared.by_profile.state.StateByProfile.{StateByProfile}
use Rattle.mdb_cashless.specs.declared.by_profile.state.StateByProfile.TheVariants.{Base, Extended}
use Rattle.mdb_cashless.specs.declared.reader.state.ReaderState.{ReaderState}
use Rattle.mdb_cashless.specs.ByProfile.{StepOf, base_state, by_profile, extended_state, machine, machine_in, strayed}
use Rattle.mdb_cashless.specs.ByProfileFacts.{FactsByProfile, facts_of, unvalued}
use Rattle.mdb_cashless.specs.ByProfileValues.{known_in}
use Rattle.mdb_cashless.specs.ExtendedReader as extended
use Rattle.mdb_cashless.specs.Reader as base
use Rattle.mdb_cashless.specs.ReaderValues as base_values
use Rattle.mdb_cashless.specs.inner.Approvals as extended_values
use Rattle.mdb_cashless.specs.inner.KnowingReader as knowing
use Rattle.mdb_cashless.specs.shared.ApprovalWays as extended_ways
use Rattle.mdb_cashless.specs.shared.ReaderWays as base_ways

-- the power-on state of the machine that is known of
abbrev pub power_on_in : KnownByProfile → StateByProfile
power_on_in (values.Base known) = Base base.power_on
power_on_in (values.Extended facts) = Extended extended.power_on

-- whether what is known settles an act
abbrev pub settled : ReaderUnit → KnownByProfile → Act → Bool
settled unit (values.Base known) act = base_values.settled unit known act
settled unit (values.Extended facts) act = extended_values.settled unit facts act

-- what holds of both holds of that of a profile
pub of_each {ℓ} : {X : Type ℓ} (P : X → Type 0) (profile : Profile) {one other : X} → P one
    → P other → P (by_profile profile one other)
of_each P profiles.Base one other = one
of_each P profiles.Extended one other = other

-- States of a machine among those of either profile.
pub record IsPart {State : Type 0} (its_state : StateByProfile → Option State) : Type 0 where
  pub into : State → StateByProfile
  pub again : (state : State) → its_state (into state) ≡ Some state
  pub only : (state : StateByProfile) (its : State) → its_state state ≡ Some its → state ≡ into its

pub only_base : (state : StateByProfile) (its : ReaderState) → base_state state ≡ Some its
    → state ≡ Base its
only_base (Base state) its is = cc
only_base (Extended state) its is = absurd cc

pub only_extended : (state : StateByProfile) (its : ApprovalState) → extended_state state ≡ Some its
    → state ≡ Extended its
only_extended (Base state) its is = absurd cc
only_extended (Extended state) its is = cc

abbrev pub base_part : IsPart base_state
base_part = record { into = Base; again = λ state. refl; only = only_base }

abbrev pub extended_part : IsPart extended_state
extended_part = record { into = Extended; again = λ state. refl; only = only_extended }

-- what holds of each holds of the one that there may be
pub if_some : {X : Type 0} {P : X → Type 0} (o : Option X) → ((x : X) → P x) → IfSome o P
if_some None each = tt
if_some (Some x) each = each x

-- a step under other circumstances
pub goes : {State : Type 0} (One Other : State → State → Gains → Type 0) (Stray : Type 0)
    (before after : Option State) (gains : Gains)
    → IfSome before (λ its. (to : State) → One its to gains → Other its to gains)
    → StepOf One Stray before after gains → StepOf Other Stray before after gains
goes One Other Stray (Some its) (Some to) gains each step = each to step
goes One Other Stray (Some its) None gains each step = step
goes One Other Stray None after gains each step = step

not_strayed : (power_on : StateByProfile) (act : Act) (before : StateByProfile)
    → ((length : ℕ) → act ≡ acts.Break length → ⊥) → strayed power_on act before ≡ before
not_strayed power_on (acts.Break length) before other = absurd (other length refl)
not_strayed power_on act before other = refl

module _ {State : Type 0} (its_state : StateByProfile → Option State) (part : IsPart its_state)
  where
    -- where the machine's step changes nothing, so does this one
    pub still : (Step : State → State → Gains → Type 0) (power_on : StateByProfile) (act : Act)
        (before after : StateByProfile) (gains : Gains) → ((length : ℕ) → act ≡ acts.Break length
        → ⊥)
        → IfSome (its_state before) (λ its. (to : State) → Step its to gains ↔ Stays its to gains)
        → StepOf Step (Stays (strayed power_on act before) after gains) (its_state before)
        (its_state after) gains
        ↔ Stays before after gains
    still Step power_on act before after gains other =
        by (its_state before) (its_state after) refl refl
      where
        by : (one two : Option State) → its_state before ≡ one → its_state after ≡ two
            → IfSome one (λ its. (to : State) → Step its to gains ↔ Stays its to gains)
            → StepOf Step (Stays (strayed power_on act before) after gains) one two gains
            ↔ Stays before after gains
        by (Some its) (Some to) from gone each = (
          λ step. let stays = (each to).0 step in (
            part.only after to gone ∙ ap part.into stays.0 ∙ sym (part.only before its from),
            stays.1,
          ),
          λ stays. let same = ap its_state stays.0 in (each to).1 (cc, stays.1),
        )
        by (Some its) None from gone each =
            (λ step. absurd step, λ stays. let same = ap its_state stays.0 in absurd cc)
        by None two from gone each =
            rw (not_strayed power_on act before other) (λ step. step, λ step. step)

    pub is_machine_in : (device : Device) (power_on : State) (machine : Machine State)
        → machine.Starts power_on → IsMachineOf device machine
        → IsMachineOf device (machine_in its_state (part.into power_on) machine)
    is_machine_in device power_on machine starts law = record {
      elsewhere = λ so_far act choice before after gains other.
          still (machine.Step so_far act choice) (part.into power_on) act before after gains
          (λ length is. other (subst (IsActOf device) (sym is) tt))
          (if_some (its_state before) (λ its to. law.elsewhere so_far act choice its to gains
          other));
      own = λ so_far others act choice before after gains same.
          goes (machine.Step so_far act choice) (machine.Step others act choice) _
          (its_state before) (its_state after) gains
          (if_some (its_state before) (λ its to. law.own so_far others act choice its to gains
          same));
      breaks = λ so_far length choice before. breaks so_far length choice (its_state before);
      starts_over = λ so_far length choice before after gains.
          starts_over so_far length choice after gains (its_state before) (its_state after) refl;
      as_plain = λ so_far act choice before after gains barred.
          goes (machine.Step so_far act choice) (machine.Step so_far act Plain) _
          (its_state before) (its_state after) gains
          (if_some (its_state before) (λ its to. law.as_plain so_far act choice its to gains
          barred));
      restarts = λ so_far act before after gains approving.
          goes (machine.Step so_far act Restart) (machine.Step so_far act Again) _
          (its_state before) (its_state after) gains
          (if_some (its_state before)
          (λ its to. law.restarts so_far act its to gains approving));
    }
      where
        breaks : (so_far : List Act) (length : ℕ) (choice : Choice) (one : Option State)
            → (after : StateByProfile) × (gains : Gains)
            × StepOf (machine.Step so_far (acts.Break length) choice)
            (Stays (part.into power_on) after gains) one (its_state after) gains
        breaks so_far length choice (Some its) =
            let found = law.breaks so_far length choice its in
            (part.into found.0, found.1, rw (part.again found.0) found.2)
        breaks so_far length choice None = (part.into power_on, no_gains, (refl, refl))

        starts_over : (so_far : List Act) (length : ℕ) (choice : Choice) (after : StateByProfile)
            (gains : Gains) (one two : Option State) → its_state after ≡ two
            → StepOf (machine.Step so_far (acts.Break length) choice)
            (Stays (part.into power_on) after gains) one two gains
            → IsSomeAnd two machine.Starts × (gains ≡ no_gains)
        starts_over so_far length choice after gains (Some its) (Some to) gone step =
            law.starts_over so_far length choice its to gains step
        starts_over so_far length choice after gains (Some its) None gone step = absurd step
        starts_over so_far length choice after gains None two gone step = (
          subst (λ o. IsSomeAnd o machine.Starts)
              (sym (part.again power_on) ∙ ap its_state (sym step.0) ∙ gone) starts,
          step.1,
        )

-- a machine may start in its power-on state, wherever a recording begins
starts_in : {State : Type 0} (power_on : State) (begins : Beginning)
    → StartsIn power_on begins power_on
starts_in power_on (PowerOn profile) = refl
starts_in power_on (Joined setups profile) = tt

pub is_machine : (unit : ReaderUnit) (begins : Beginning)
    → IsMachineOf (devices.Reader unit) (machine unit begins)
is_machine unit begins = of_each (IsMachineOf (devices.Reader unit)) (profile_of begins)
    (is_machine_in base_state base_part (devices.Reader unit) base.power_on
    (base.machine unit begins) (starts_in base.power_on begins) (base_ways.is_machine unit begins))
    (is_machine_in extended_state extended_part (devices.Reader unit) extended.power_on
    (extended.machine unit begins) (starts_in extended.power_on begins)
    (extended_ways.is_machine unit begins))

pub some_start : (unit : ReaderUnit) (begins : Beginning)
    → (state : StateByProfile) × (machine unit begins).Starts state
some_start unit begins =
    of_each (λ (its : Machine StateByProfile). (state : StateByProfile)
    × its.Starts state) (profile_of begins)
    (Base base.power_on, starts_in base.power_on begins)
    (Extended extended.power_on, starts_in extended.power_on begins)

pub settled_from_power_on : (unit : ReaderUnit) (profile : Profile) (known : KnownByProfile)
    (so_far : List Act) (act : Act) → known_in known ≡ facts_of (PowerOn profile) unit so_far
    → settled unit known act ≡ true
settled_from_power_on unit profiles.Base (values.Base known) so_far act is =
    knowing.settled_from_power_on unit profiles.Base known so_far act cc
settled_from_power_on unit profiles.Extended (values.Extended facts) so_far act is =
    extended_ways.settled_from_power_on unit profiles.Extended facts so_far act cc
settled_from_power_on unit profiles.Base (values.Extended facts) so_far act is = absurd cc
settled_from_power_on unit profiles.Extended (values.Base known) so_far act is = absurd cc

pub untold : (unit : ReaderUnit) (begins : Beginning) (so_far : List Act) (act : Act)
    → (IsActOf (devices.Reader unit) act → ⊥)
    → unvalued unit begins (act ∷ so_far) ≡ unvalued unit begins so_far
untold unit begins so_far act other =
    of_each (λ (count : List Act → ℕ). count (act ∷ so_far) ≡ count so_far) (profile_of begins)
    (base_ways.untold unit begins so_far act other)
    (extended_ways.untold unit begins so_far act other)

pub unmoved : (unit : ReaderUnit) (begins : Beginning) (facts : FactsByProfile)
    (before : List Act) (act : Act) → (IsActOf (devices.Reader unit) act → ⊥)
    → facts ≡ facts_of begins unit before → facts ≡ facts_of begins unit (act ∷ before)
unmoved unit begins facts before act other is =
    let known = base_ways.unmoved unit begins _ before act other refl in
    let told = extended_ways.unmoved unit begins _ before act other refl in
    is ∙ cc
