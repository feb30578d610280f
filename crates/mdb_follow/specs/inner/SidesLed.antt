-- How sides are led over an act, and how far from 0 the ends of their tables and their counts are.
-- This serves `Follower` and private functions.
use Rattle.std.specs.Prelude.{◌≡◌, ◌⊎◌, ◌≤◌, ◌+◌, ◌^◌, ℕ, List, ◌∷◌}
use Rattle.mdb_msgs.specs.declared.command.Device.{Device}
use Rattle.mdb_bus.specs.declared.act.Act.{Act}
use Rattle.mdb_bus.specs.declared.fault.Rule.{Rule}
use Rattle.mdb_bus.specs.declared.scope.Beginning.{Beginning}
use Rattle.mdb_machine.specs.Machine.{Machine}
use Rattle.mdb_follow.specs.declared.side.Side.{Side}
use Rattle.mdb_follow.specs.declared.sides.Sides.{Sides}
use Rattle.mdb_follow.specs.Machines.{machine_of}
use Rattle.mdb_follow.specs.Offences.{HasNoStep, rule_of}
use Rattle.mdb_follow.specs.Report.{unvalued_of}
use Rattle.mdb_follow.specs.Sides.{AreSides, IsSide, IsSideOf, SideOf, code_of, side_in, stands_for}
use Rattle.mdb_follow.specs.ByDevice.{OneGoes}
use Rattle.mdb_follow.specs.Limits.{IsTableWithin}

-- all ends of a side's table are at most so far from 0, and so is its count
pub record IsSideWithin {Facts : Type 0} {N : ℕ} (limit : ℕ) (side : Side Facts N) : Type 0 where
  pub ends : IsTableWithin limit side.table
  pub count : side.unvalued ≤ limit

-- those of the side of a device, and those of all sides
abbrev pub IsWithin : Device → ℕ → Sides → Type 0
IsWithin device limit sides = IsSideWithin limit (side_in sides device)

abbrev pub AreWithin : ℕ → Sides → Type 0
AreWithin limit sides = (device : Device) → IsWithin device limit sides

-- A side has followed an act: it stands for one act more, and its ends and its count are little
-- farther from 0.
pub record Follows {Facts State : Type 0} {N : ℕ}
    (stands_for : Beginning → Facts → List Act → Type 0) (code_of : State → ℕ)
    (machine : Beginning → Machine State) (unvalued : Beginning → List Act → ℕ)
    (old : Side Facts N) (act : Act) (new : Side Facts N) : Type 0 where
  pub stands : (begins : Beginning) (acts : List Act)
      → IsSide (stands_for begins) code_of (machine begins) (unvalued begins) old acts
      → IsSide (stands_for begins) code_of (machine begins) (unvalued begins) new (act ∷ acts)
  pub within : (limit : ℕ) → IsSideWithin limit old → IsSideWithin (limit + 2 ^ 32) new

-- the side of a device has
abbrev pub FollowsOf : Act → (device : Device) → SideOf device → SideOf device → Type 0
FollowsOf act device old new =
    Follows (λ begins. stands_for begins device) (code_of device)
    (λ begins. machine_of begins device) (λ begins. unvalued_of begins device) old act new

-- the side of one device has, and each other is what it was
abbrev pub OneFollows : Device → Sides → Act → Sides → Type 0
OneFollows device old act new =
    OneGoes SideOf (FollowsOf act) device (side_in old) (side_in new)

-- each side has
abbrev pub SidesFollow : Sides → Act → Sides → Type 0
SidesFollow old act new =
    (device : Device) → FollowsOf act device (side_in old device) (side_in new device)

-- The side of a device has no step by an act, so the rule of the device is broken.
pub record Stops (device : Device) (sides : Sides) (act : Act) (broken : Rule) : Type 0 where
  pub rule : broken ≡ rule_of device
  pub none : (begins : Beginning) (acts : List Act)
      → IsSideOf begins device (side_in sides device) acts
      → HasNoStep (machine_of begins device) act acts

-- the side of some device has none
abbrev pub SidesStop : Sides → Act → Rule → Type 0
SidesStop sides act broken = (device : Device) × Stops device sides act broken

-- sides stand for some acts of some recording
pub record AreStanding (sides : Sides) : Type 0 where
  pub begins : Beginning
  pub acts : List Act
  pub stand : AreSides begins sides acts

-- sides that stand for acts are what they were
abbrev pub SidesStay : Sides → Sides → Type 0
SidesStay old new = (new ≡ old) ⊎ (AreStanding old → ⊥)
