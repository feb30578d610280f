-- A value of what is known of the validator, and what it stands for.
use Rattle.std.specs.declared.convert.Infallible.{Infallible}
use Rattle.mdb_msgs.specs.declared.command.BillCommand.{BillCommand}
use Rattle.mdb_msgs.specs.declared.reply.bill.BillMsg.{BillMsg}
use Rattle.mdb_msgs.specs.declared.reply.setup.BillSetup.{BillSetup}
use Rattle.mdb_cash.specs.declared.bill.Bill.{Bill}
use Rattle.mdb_cash.specs.declared.bill.activity.BillActivity.{BillActivity}
use Rattle.mdb_machine.specs.declared.keeper.KeeperKnown.{KeeperKnown}
use Rattle.mdb_cash.specs.BillFacts.{KnownFacts, Facts, tables}
use Rattle.mdb_machine.specs.KeeperValues as keeper_values
use Rattle.std.specs.Prelude.{List}
use Rattle.mdb_bus.specs.declared.act.Act.{Act}
use Rattle.mdb_bus.specs.declared.scope.Profile.{Profile}
use Rattle.mdb_cash.specs.declared.bill.state.BillState.{BillState}
use Rattle.mdb_machine.specs.declared.choice.Choice.{Choice}
use Rattle.mdb_machine.specs.declared.gains.Gains.{Gains}
use Rattle.mdb_machine.specs.KeeperConduct.{KeeperStep}
use Rattle.mdb_cash.specs.Bill.{conduct}

abbrev pub Value : Type 0
Value = KeeperKnown Bill BillCommand BillSetup Infallible BillActivity BillMsg

abbrev pub known_in : Value → KnownFacts
known_in = keeper_values.known_in

-- the facts after acts
abbrev pub facts_of : Profile → List Act → Facts
facts_of = keeper_values.facts_of tables

-- A step of the validator and the controller by an act under a choice, after acts that leave
-- these facts.
abbrev pub BillStep : Facts → Act → Choice → BillState → BillState → Gains → Type 0
BillStep = KeeperStep tables conduct
