-- A device and the controller, as states with codes and as steps. This serves the trait `Pair`.
use Rattle.std.specs.Prelude.{◌≡◌, ◌≢◌, ◌⊎◌, ◌↔◌, ℕ, true, List, Option, Some, None}
use Rattle.mdb_msgs.specs.declared.command.Device.{Device}
use Rattle.mdb_bus.specs.declared.act.Act.{Act}
use Rattle.mdb_bus.specs.declared.act.Act.TheVariants as acts
use Rattle.mdb_bus.specs.declared.act.Act.TheVariants.{Break}
use Rattle.mdb_bus.specs.LeavingOut.{acts_with, device_in}
use Rattle.mdb_machine.specs.declared.choice.Choice.{Choice}
use Rattle.mdb_machine.specs.declared.choice.Choice.TheVariants.{Plain, Restart, Again}
use Rattle.mdb_machine.specs.declared.gains.Gains.{Gains}
use Rattle.mdb_machine.specs.Choices.{CanStand, approves}
use Rattle.mdb_machine.specs.Machine.{Machine}
use Rattle.mdb_machine.specs.Gains.{Stays, no_gains}

-- An act that a device has a part in: its command is to this device. Foreign traffic is of none,
-- and a break of all.
abbrev pub IsActOf : Device → Act → Type 0
IsActOf device (acts.Break length) = Unit {0}
IsActOf device act = device_in act ≡ Some device

-- an act is a break
abbrev pub IsBreak : Act → Type 0
IsBreak (acts.Break length) = Unit {0}
IsBreak act = ⊥

-- a device's own acts: of acts those in which it has a part, in their order, so breaks too
abbrev pub own_acts : Device → List Act → List Act
own_acts device so_far = acts_with device so_far

-- an act of another device alone: foreign traffic and a break are none
abbrev pub IsOfAnother : Device → Act → Type 0
IsOfAnother device acts.Foreign = ⊥
IsOfAnother device act = IsActOf device act → ⊥

-- A choice that is asked of a device can stand where it can stand on the act, whosever that is. On
-- an act of another device any can: there it says nothing.
abbrev pub CanStandFor : Device → Act → Choice → Type 0
CanStandFor device act choice = CanStand act choice ⊎ IsOfAnother device act

-- an answer is the one step that there is, by the state after it and its gains, or tells that there
-- is none
abbrev pub IsOnlyStep : {State : Type 0} → (State → Gains → Type 0) → Option (State × Gains)
    → Type 0
IsOnlyStep {State} Step None = (after : State) (gains : Gains) → Step after gains → ⊥
IsOnlyStep {State} Step (Some one) =
    Step one.0 one.1
    × ((after : State) (gains : Gains) → Step after gains → (after ≡ one.0) × (gains ≡ one.1))

-- an answer is the one thing that is so, or tells that there is none
abbrev pub IsOnly : {X : Type 0} → (X → Type 0) → Option X → Type 0
IsOnly {X} Is None = (x : X) → Is x → ⊥
IsOnly {X} Is (Some one) = Is one × ((x : X) → Is x → x ≡ one)

-- a step from the state of a code to the state of a code
pub record IsStep {State : Type 0} (code_of : State → ℕ) (Step : State → State → Gains → Type 0)
    (code next : ℕ) (gains : Gains) : Type 0 where
  pub before : State
  pub after : State
  pub starts : code_of before ≡ code
  pub ends : code_of after ≡ next
  pub step : Step before after gains

-- a step of a device by an act under a choice, where that can stand
abbrev pub IsChosenStep : {State : Type 0} → Device → Act → (State → ℕ)
    → (Choice → State → State → Gains → Type 0) → Choice → ℕ → ℕ → Gains → Type 0
IsChosenStep device act code_of Step choice code next gains =
    CanStandFor device act choice × IsStep code_of (Step choice) code next gains

-- a step by an act under some choice that can stand on it
abbrev pub IsMove : {State : Type 0} → Act → (State → ℕ)
    → (Choice → State → State → Gains → Type 0) → ℕ → ℕ → Gains → Type 0
IsMove act code_of Step code next gains =
    (choice : Choice) × CanStand act choice × IsStep code_of (Step choice) code next gains

-- and by another choice than the plain one
abbrev pub IsOtherMove : {State : Type 0} → Act → (State → ℕ)
    → (Choice → State → State → Gains → Type 0) → ℕ → ℕ → Gains → Type 0
IsOtherMove act code_of Step code next gains =
    (choice : Choice) × CanStand act choice × (choice ≢ Plain)
    × IsStep code_of (Step choice) code next gains

-- A machine is one of a device: an act in which the device has no part changes nothing; what the
-- machine does after acts depends on the device's own acts among them alone, and not on what the
-- controller and other devices said to each other; by a break there is always a step, whatever the
-- choice; a break leads to no other state than one in which the machine may start, and adds
-- nothing; a choice that can't stand on an act leads nowhere else than the plain one; and a reply
-- that approves a sale leads nowhere else as one that tells of a restart than as one told again.
pub record IsMachineOf {State : Type 0} (device : Device) (machine : Machine State) : Type 0 where
  pub elsewhere : (acts : List Act) (act : Act) (choice : Choice) (before after : State)
      (gains : Gains) → (IsActOf device act → ⊥)
      → machine.Step acts act choice before after gains ↔ Stays before after gains
  pub own : (acts other : List Act) (act : Act) (choice : Choice) (before after : State)
      (gains : Gains) → own_acts device acts ≡ own_acts device other
      → machine.Step acts act choice before after gains
      → machine.Step other act choice before after gains
  pub breaks : (acts : List Act) (length : ℕ) (choice : Choice) (before : State)
      → (after : State) × (gains : Gains)
      × machine.Step acts (Break length) choice before after gains
  pub starts_over : (acts : List Act) (length : ℕ) (choice : Choice) (before after : State)
      (gains : Gains) → machine.Step acts (Break length) choice before after gains
      → machine.Starts after × (gains ≡ no_gains)
  pub as_plain : (acts : List Act) (act : Act) (choice : Choice) (before after : State)
      (gains : Gains) → (CanStand act choice → ⊥)
      → machine.Step acts act choice before after gains
      → machine.Step acts act Plain before after gains
  pub restarts : (acts : List Act) (act : Act) (before after : State) (gains : Gains)
      → approves act ≡ true → machine.Step acts act Restart before after gains
      → machine.Step acts act Again before after gains
