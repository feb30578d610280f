-- What is known of the changer after a list of acts, the newest first (this profile).
use Rattle.std.specs.Prelude.{ℕ, Bool, true, false, List, Option, Some, None}
use Rattle.mdb_msgs.specs.declared.command.Command.{Command}
use Rattle.mdb_msgs.specs.declared.command.Command.TheVariants as commands
use Rattle.mdb_msgs.specs.declared.command.ChangerCommand.{ChangerCommand}
use Rattle.mdb_msgs.specs.declared.command.ChangerCommand.TheVariants as changer
use Rattle.mdb_msgs.specs.declared.reply.Reply.{Reply}
use Rattle.mdb_msgs.specs.declared.reply.Reply.TheVariants as replies
use Rattle.mdb_msgs.specs.declared.reply.setup.ChangerSetup.{ChangerSetup}
use Rattle.mdb_bus.specs.declared.act.Act.{Act}
use Rattle.mdb_bus.specs.declared.scope.Beginning.{Beginning}
use Rattle.mdb_cash.specs.declared.changer.activity.ChangerActivity.{ChangerActivity}
use Rattle.mdb_machine.specs.declared.past.Effect.{Effect}
use Rattle.mdb_machine.specs.declared.past.Effect.TheVariants as effects
use Rattle.mdb_cash.specs.ChangerMessages.{parts_of}
use Rattle.mdb_machine.specs.Keeper as keeper
use Rattle.mdb_machine.specs.Keeper.{Tables}

-- the command of the changer that a command is
abbrev pub own : Command → Option ChangerCommand
own (commands.Changer command) = Some command
own _ = None

-- whether a command is POLL
abbrev pub is_poll : ChangerCommand → Bool
is_poll changer.Poll = true
is_poll _ = false

-- What a command is to the changer that takes it: its RESET, or a COIN TYPE, which enables the
-- types of Y1-Y2. (No data answers either, so it is ACK that takes them.)
abbrev pub effect_of : ChangerCommand → Effect
effect_of changer.Reset = effects.Reset
effect_of (changer.CoinType enable manual) = effects.Enable enable
effect_of _ = effects.Other

-- of what the controller asks, Y1 of a DISPENSE counts
abbrev pub asked_of : ChangerCommand → Option ℕ
asked_of (changer.Dispense coins) = Some coins
asked_of _ = None

-- the setup table of a reply
abbrev pub setup_of : Reply → Option ChangerSetup
setup_of (replies.ChangerSetup setup) = Some setup
setup_of _ = None

-- the changer, as a device that keeps messages
abbrev pub tables : Tables ChangerCommand ChangerSetup ℕ ChangerActivity
tables =
    record {
      own = own;
      is_poll = is_poll;
      effect_of = effect_of;
      asked_of = asked_of;
      setup_of = setup_of;
      setup_known = λ setups. setups.changer;
      decimals_of = λ setup. setup.decimals;
      parts_of = parts_of;
    }

-- the facts: the last setup table, Y1 of the last DISPENSE asked, the coin types that are enabled,
-- the reset message, and the last kept list
abbrev pub Facts : Type 0
Facts = keeper.Facts ChangerSetup ℕ ChangerActivity

-- what is known of them, where a recording may begin in mid-session
abbrev pub KnownFacts : Type 0
KnownFacts = keeper.KnownFacts ChangerSetup ℕ ChangerActivity

abbrev pub known_of : Beginning → List Act → KnownFacts
known_of = keeper.known_of tables
