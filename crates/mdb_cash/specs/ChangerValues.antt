-- A value of what is known of the changer, and what it stands for.
use Rattle.std.specs.Prelude.{ℕ, List}
use Rattle.mdb_msgs.specs.declared.command.ChangerCommand.{ChangerCommand}
use Rattle.mdb_msgs.specs.declared.reply.changer.ChangerMsg.{ChangerMsg}
use Rattle.mdb_msgs.specs.declared.reply.setup.ChangerSetup.{ChangerSetup}
use Rattle.mdb_cash.specs.declared.changer.Changer.{Changer}
use Rattle.mdb_cash.specs.declared.changer.activity.ChangerActivity.{ChangerActivity}
use Rattle.mdb_machine.specs.declared.keeper.KeeperKnown.{KeeperKnown}
use Rattle.mdb_cash.specs.ChangerFacts.{KnownFacts, Facts, tables}
use Rattle.mdb_machine.specs.KeeperValues as keeper_values
use Rattle.mdb_bus.specs.declared.act.Act.{Act}
use Rattle.mdb_bus.specs.declared.scope.Profile.{Profile}
use Rattle.mdb_cash.specs.declared.changer.state.ChangerState.{ChangerState}
use Rattle.mdb_machine.specs.declared.choice.Choice.{Choice}
use Rattle.mdb_machine.specs.declared.gains.Gains.{Gains}
use Rattle.mdb_machine.specs.KeeperConduct.{KeeperStep}
use Rattle.mdb_cash.specs.Changer.{conduct}

abbrev pub Value : Type 0
Value = KeeperKnown Changer ChangerCommand ChangerSetup ℕ ChangerActivity ChangerMsg

abbrev pub known_in : Value → KnownFacts
known_in = keeper_values.known_in

-- the facts after acts
abbrev pub facts_of : Profile → List Act → Facts
facts_of = keeper_values.facts_of tables

-- A step of the changer and the controller by an act under a choice, after acts that leave these
-- facts.
abbrev pub ChangerStep : Facts → Act → Choice → ChangerState → ChangerState → Gains → Type 0
ChangerStep = KeeperStep tables conduct
