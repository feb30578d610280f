-- A machine: a device with the controller's dealings with it, by the states in which it may start
-- and the steps that acts are. Lists of acts stand newest first.
use Rattle.std.specs.Prelude.{◌≡◌, List}
use Rattle.mdb_bus.specs.declared.scope.Beginning.{Beginning}
use Rattle.mdb_bus.specs.declared.scope.Beginning.TheVariants.{PowerOn, Joined}
use Rattle.mdb_bus.specs.declared.act.Act.{Act}
use Rattle.mdb_machine.specs.declared.choice.Choice.{Choice}
use Rattle.mdb_machine.specs.declared.gains.Gains.{Gains}

pub record Machine (State : Type 0) : Type 1 where
  -- the states in which it may be before the first act
  pub Starts : State → Type 0
  -- after acts, a step by an act under a choice, from a state to a state, with its gains
  pub Step : List Act → Act → Choice → State → State → Gains → Type 0

-- Where a machine may start: as a recording begins at power-on, in its power-on state, and in
-- mid-session in any state.
abbrev pub StartsIn : {State : Type 0} → State → Beginning → State → Type 0
StartsIn power_on (PowerOn profile) state = state ≡ power_on
StartsIn power_on (Joined setups profile) state = Unit {0}
