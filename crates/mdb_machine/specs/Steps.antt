-- The steps of a device and the controller, by whose act it is and what the act is (this profile).
use Rattle.std.specs.Prelude.{◌≡◌, Option, Some, None}
use Rattle.mdb_msgs.specs.declared.command.Command.{Command}
use Rattle.mdb_msgs.specs.declared.reply.Reply.{Reply}
use Rattle.mdb_bus.specs.declared.act.Act.{Act}
use Rattle.mdb_bus.specs.declared.act.Act.TheVariants as acts
use Rattle.mdb_machine.specs.declared.choice.Choice.{Choice}
use Rattle.mdb_machine.specs.declared.gains.Gains.{Gains}
use Rattle.mdb_machine.specs.Gains.{Stays, no_gains}

-- The steps by the acts of a device: `Own` are its commands.
pub record Steps (Own State : Type 0) : Type 1 where
  -- the state after a break
  pub power_on : State
  -- the controller asks a command
  pub Asks : Own → State → State → Gains → Type 0
  -- the device acknowledges it
  pub Acks : Own → Choice → State → State → Gains → Type 0
  -- the device replies to it with data
  pub Replies : Own → Reply → Choice → State → State → Gains → Type 0
  -- the controller acknowledges that reply
  pub VmcAcks : Own → Reply → Choice → State → State → Gains → Type 0

-- a step by a command of the device; one of another device changes nothing
abbrev pub ForOwn : {Own State : Type 0} → Option Own → (Own → State → State → Gains → Type 0)
    → State → State → Gains → Type 0
ForOwn None Step = Stays
ForOwn (Some command) Step = Step command

-- A step by an act under a choice; `own` says which command of the device a command is. NAK, RET,
-- repeats and foreign traffic change nothing.
abbrev pub StepBy : {Own State : Type 0} → (Command → Option Own) → Steps Own State → Act → Choice
    → State → State → Gains → Type 0
StepBy own steps (acts.Ask command) choice = ForOwn (own command) steps.Asks
StepBy own steps (acts.Ack command) choice = ForOwn (own command) (λ c. steps.Acks c choice)
StepBy own steps (acts.Reply command reply) choice =
    ForOwn (own command) (λ c. steps.Replies c reply choice)
StepBy own steps (acts.VmcAck command reply) choice =
    ForOwn (own command) (λ c. steps.VmcAcks c reply choice)
StepBy own steps (acts.Break length) choice =
    λ before after gains. (after ≡ steps.power_on) × (gains ≡ no_gains)
StepBy own steps act choice = Stays
