-- The ways through acts: which state of a device and the controller each leads to, and what the
-- accounts have come to then. The acts stand newest first.
use Rattle.std.specs.Prelude.{◌≡◌, List, [], ◌∷◌}
use Rattle.mdb_bus.specs.declared.act.Act.{Act}
use Rattle.mdb_machine.specs.declared.choice.Choice.{Choice}
use Rattle.mdb_machine.specs.declared.gains.Gains.{Gains}
use Rattle.mdb_machine.specs.Choices.{CanStand}
use Rattle.mdb_machine.specs.Machine.{Machine}
use Rattle.mdb_follow.specs.Sums.{Sums, added, no_sums}

-- One act more: a way through the acts before it leads to a state, and a step by the act, under a
-- choice that can stand on it, leads on from there and adds its gains.
pub record ArrivesBy {State : Type 0} (act : Act) (Before : State → Sums → Type 0)
    (Step : Choice → State → State → Gains → Type 0) (state : State) (sums : Sums) : Type 0 where
  pub choice : Choice
  pub stands : CanStand act choice
  pub before : State
  pub sums_before : Sums
  pub gains : Gains
  pub way : Before before sums_before
  pub step : Step choice before state gains
  pub adds : sums ≡ added sums_before gains

-- A way through the acts, from a state in which the machine may start, leads to this state with
-- these sums.
abbrev pub Arrives : {State : Type 0} → Machine State → List Act → State → Sums → Type 0
Arrives machine [] state sums = machine.Starts state × (sums ≡ no_sums)
Arrives machine (act ∷ acts) state sums =
    ArrivesBy act (Arrives machine acts) (machine.Step acts act) state sums
