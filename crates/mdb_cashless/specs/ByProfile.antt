-- A cashless reader and the controller's dealings with it by either profile (this profile): by the
-- base profile as `Reader` has it, and by the extended one as `ExtendedReader` has it.
use Rattle.std.specs.Prelude.{Option, Some, None, IsSomeAnd}
use Rattle.mdb_msgs.specs.declared.command.ReaderUnit.{ReaderUnit}
use Rattle.mdb_bus.specs.declared.act.Act.{Act}
use Rattle.mdb_bus.specs.declared.act.Act.TheVariants.{Break}
use Rattle.mdb_bus.specs.declared.scope.Beginning.{Beginning}
use Rattle.mdb_bus.specs.declared.scope.Profile.{Profile}
use Rattle.mdb_bus.specs.declared.scope.Profile.TheVariants as profiles
use Rattle.mdb_bus.specs.Scopes.{profile_of}
use Rattle.mdb_machine.specs.declared.gains.Gains.{Gains}
use Rattle.mdb_machine.specs.Gains.{Stays}
use Rattle.mdb_machine.specs.Machine.{Machine}
use Rattle.mdb_cashless.specs.declared.approvals.state.ApprovalState.{ApprovalState}
use Rattle.mdb_cashless.specs.declared.by_profile.state.StateByProfile.{StateByProfile}
use Rattle.mdb_cashless.specs.declared.by_profile.state.StateByProfile.TheVariants.{Base, Extended}
use Rattle.mdb_cashless.specs.declared.reader.state.ReaderState.{ReaderState}
use Rattle.mdb_cashless.specs.ExtendedReader as extended
use Rattle.mdb_cashless.specs.Reader as base

-- of two things that of a profile
abbrev pub by_profile {ℓ} : {X : Type ℓ} → Profile → X → X → X
by_profile profiles.Base one other = one
by_profile profiles.Extended one other = other

-- the state of the base profile's machine that a state is, if it is one
abbrev pub base_state : StateByProfile → Option ReaderState
base_state (Base state) = Some state
base_state (Extended state) = None

-- and of the extended profile's
abbrev pub extended_state : StateByProfile → Option ApprovalState
extended_state (Base state) = None
extended_state (Extended state) = Some state

-- A state of the other profile's machine stays as it is until a break, and is no other's start.
abbrev pub strayed : StateByProfile → Act → StateByProfile → StateByProfile
strayed power_on (Break length) before = power_on
strayed power_on act before = before

-- A step of a machine from a state to a state, where these are its own. From another there is this
-- one.
abbrev pub StepOf : {State : Type 0} → (State → State → Gains → Type 0) → Type 0 → Option State
    → Option State → Gains → Type 0
StepOf Step Stray (Some before) (Some after) gains = Step before after gains
StepOf Step Stray (Some before) None gains = ⊥
StepOf Step Stray None after gains = Stray

-- a machine as one whose states are some of these
abbrev pub machine_in : {State : Type 0} → (StateByProfile → Option State) → StateByProfile
    → Machine State → Machine StateByProfile
machine_in its_state power_on machine = record {
  Starts = λ state. IsSomeAnd (its_state state) machine.Starts;
  Step = λ acts act choice before after gains. StepOf (machine.Step acts act choice)
      (Stays (strayed power_on act before) after gains) (its_state before) (its_state after) gains;
}

-- the machine of a reader in a recording that begins so
abbrev pub machine : ReaderUnit → Beginning → Machine StateByProfile
machine unit begins = by_profile (profile_of begins)
    (machine_in base_state (Base base.power_on) (base.machine unit begins))
    (machine_in extended_state (Extended extended.power_on) (extended.machine unit begins))
