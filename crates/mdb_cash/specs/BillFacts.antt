-- What is known of the validator after a list of acts, the newest first (this profile).
use Rattle.std.specs.Prelude.{Bool, true, false, List, Option, Some, None}
use Rattle.std.specs.declared.convert.Infallible.{Infallible}
use Rattle.mdb_msgs.specs.declared.command.Command.{Command}
use Rattle.mdb_msgs.specs.declared.command.Command.TheVariants as commands
use Rattle.mdb_msgs.specs.declared.command.BillCommand.{BillCommand}
use Rattle.mdb_msgs.specs.declared.command.BillCommand.TheVariants as bill
use Rattle.mdb_msgs.specs.declared.reply.Reply.{Reply}
use Rattle.mdb_msgs.specs.declared.reply.Reply.TheVariants as replies
use Rattle.mdb_msgs.specs.declared.reply.setup.BillSetup.{BillSetup}
use Rattle.mdb_bus.specs.declared.act.Act.{Act}
use Rattle.mdb_bus.specs.declared.scope.Beginning.{Beginning}
use Rattle.mdb_cash.specs.declared.bill.activity.BillActivity.{BillActivity}
use Rattle.mdb_machine.specs.declared.past.Effect.{Effect}
use Rattle.mdb_machine.specs.declared.past.Effect.TheVariants as effects
use Rattle.mdb_cash.specs.BillMessages.{parts_of}
use Rattle.mdb_machine.specs.Keeper as keeper
use Rattle.mdb_machine.specs.Keeper.{Tables}

-- the command of the validator that a command is
abbrev pub own : Command → Option BillCommand
own (commands.Bill command) = Some command
own _ = None

-- whether a command is POLL
abbrev pub is_poll : BillCommand → Bool
is_poll bill.Poll = true
is_poll _ = false

-- What a command is to the validator that takes it: its RESET, or a BILL TYPE, which enables the
-- types of Y1-Y2. (No data answers either, so it is ACK that takes them.)
abbrev pub effect_of : BillCommand → Effect
effect_of bill.Reset = effects.Reset
effect_of (bill.BillType enable escrow) = effects.Enable enable
effect_of _ = effects.Other

-- nothing counts of what the controller asks
abbrev pub asked_of : BillCommand → Option Infallible
asked_of command = None

-- the setup table of a reply
abbrev pub setup_of : Reply → Option BillSetup
setup_of (replies.BillSetup setup) = Some setup
setup_of _ = None

-- the validator, as a device that keeps messages
abbrev pub tables : Tables BillCommand BillSetup Infallible BillActivity
tables =
    record {
      own = own;
      is_poll = is_poll;
      effect_of = effect_of;
      asked_of = asked_of;
      setup_of = setup_of;
      setup_known = λ setups. setups.bill;
      decimals_of = λ setup. setup.decimals;
      parts_of = parts_of;
    }

-- the facts: the last setup table, the bill types that are enabled, the reset message, and the last
-- kept list
abbrev pub Facts : Type 0
Facts = keeper.Facts BillSetup Infallible BillActivity

-- what is known of them, where a recording may begin in mid-session
abbrev pub KnownFacts : Type 0
KnownFacts = keeper.KnownFacts BillSetup Infallible BillActivity

abbrev pub known_of : Beginning → List Act → KnownFacts
known_of = keeper.known_of tables
