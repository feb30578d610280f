-- What may not be known, since a recording begins after it was told (this profile).
use Rattle.std.specs.Prelude.{◌≡◌, ◌≢◌, Bool, true, List, [], Option, Some, None}
use Rattle.mdb_msgs.specs.declared.setups.Setups.{Setups}
use Rattle.mdb_bus.specs.declared.scope.Beginning.{Beginning}
use Rattle.mdb_bus.specs.declared.scope.Beginning.TheVariants.{PowerOn, Joined}

-- what counts, or that it isn't known
pub data Known (X : Type 0) : Type 0 where
  Unknown : Known X
  Is : X → Known X

-- What counts may be this: where it is known, what is known, and else anything.
abbrev pub Allows : {X : Type 0} → Known X → X → Type 0
Allows Unknown x = Unit {0}
Allows (Is known) x = x ≡ known

-- What a device that holds messages, or holds none, may have told as its last kept list: where that
-- isn't known, a device that holds some has told one.
abbrev pub AllowsKept : {M : Type 0} → Known (List M) → Bool → List M → Type 0
AllowsKept Unknown holds last = holds ≡ true → last ≢ []
AllowsKept (Is known) holds last = last ≡ known

-- What is known by what acts tell last: that, if they tell something; else, from power-on, what
-- counts of no act, and in a recording that begins in mid-session nothing.
abbrev pub known_by : {X : Type 0} → Beginning → X → Option X → Known X
known_by begins none (Some x) = Is x
known_by (PowerOn profile) none None = Is none
known_by (Joined setups profile) none None = Unknown

-- what is known from elsewhere of how a device is set up
abbrev pub known_before : {X : Type 0} → (Setups → Option X) → Beginning → Option X
known_before of (PowerOn profile) = None
known_before of (Joined setups profile) = of setups
