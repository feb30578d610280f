-- That acts of other devices change nothing. This proves a law of the trait `Pair`.
use Rattle.std.specs.Prelude.{◌≡◌, ◌≢◌, ◌↔◌, true, Option, Some, None}
use Rattle.std.proofs.Common.{sym}
use Rattle.std.proofs.lemmas.Option.{same_Some}
use Rattle.mdb_msgs.specs.declared.command.Command.{Command}
use Rattle.mdb_msgs.specs.declared.command.Command.TheVariants.{Reader}
use Rattle.mdb_msgs.specs.declared.command.Device.{Device}
use Rattle.mdb_msgs.specs.declared.command.Device.TheVariants as devices
use Rattle.mdb_msgs.specs.declared.command.ReaderUnit.{ReaderUnit}
use Rattle.mdb_bus.specs.declared.act.Act.{Act}
use Rattle.mdb_bus.specs.declared.act.Act.TheVariants as acts
use Rattle.mdb_machine.specs.declared.choice.Choice.{Choice}
use Rattle.mdb_machine.specs.declared.gains.Gains.{Gains}
use Rattle.mdb_machine.specs.Choices.{approves}
use Rattle.mdb_machine.specs.Pair.{IsActOf}
use Rattle.mdb_machine.specs.Gains.{Stays}
use Rattle.mdb_machine.specs.Steps.{ForOwn, StepBy, Steps}

-- commands that aren't to a device are none of its own
abbrev pub IsOwnOf : {Own : Type 0} → Device → (Command → Option Own) → Type 0
IsOwnOf device own = (command : Command) → (IsActOf device (acts.Ask command) → ⊥)
    → own command ≡ None

still : {Own State : Type 0} (command : Option Own) (Step : Own → State → State → Gains → Type 0)
    (before after : State) (gains : Gains) → command ≡ None
    → ForOwn command Step before after gains ↔ Stays before after gains
still None Step before after gains none = (λ step. step, λ step. step)
still (Some command) Step before after gains none = absurd cc

pub elsewhere : {Own State : Type 0} {device : Device} (own : Command → Option Own)
    (steps : Steps Own State) → IsOwnOf device own → (act : Act) (choice : Choice)
    (before after : State) (gains : Gains) → (IsActOf device act → ⊥)
    → StepBy own steps act choice before after gains ↔ Stays before after gains
elsewhere own steps is (acts.Ask c) choice before after gains other =
    still (own c) _ before after gains (is c other)
elsewhere own steps is (acts.Ack c) choice before after gains other =
    still (own c) _ before after gains (is c other)
elsewhere own steps is (acts.Reply c r) choice before after gains other =
    still (own c) _ before after gains (is c other)
elsewhere own steps is (acts.VmcAck c r) choice before after gains other =
    still (own c) _ before after gains (is c other)
elsewhere own steps is (acts.Break n) choice before after gains other = absurd (other tt)
elsewhere own steps is act choice before after gains other = (λ step. step, λ step. step)

-- a reply that approves a sale is of no device but a reader
pub no_approval : (device : Device) → ((unit : ReaderUnit) → device ≢ devices.Reader unit)
    → (act : Act) → approves act ≡ true → IsActOf device act → ⊥
no_approval device never (acts.Reply (Reader unit c) r) approving of =
    never unit (sym (same_Some (devices.Reader unit) device of))
no_approval device never act approving of = absurd cc
