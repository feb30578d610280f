-- The changer and the controller's dealings with it (MDB/ICP 4.3, coin changer; states and sums,
-- this profile). The accounts are coins-in and paid-out, by slot.
use Rattle.std.specs.Prelude.{◌≡◌, refl, ℕ, ◌*◌, ◌/◌, ◌%◌, Bool, true, false, ◌&&◌, [], ◌∷◌, Option, Some, None, ◌==◌, if◌then◌else◌}
use Rattle.std.specs.List.{AllByRecursion}
use Rattle.mdb_msgs.specs.declared.command.ChangerCommand.{ChangerCommand}
use Rattle.mdb_msgs.specs.declared.command.ChangerCommand.TheVariants as changer
use Rattle.mdb_msgs.specs.declared.reply.setup.ChangerSetup.{ChangerSetup}
use Rattle.mdb_msgs.specs.Setup.{credit_of}
use Rattle.mdb_bus.specs.declared.scope.Beginning.{Beginning}
use Rattle.mdb_cash.specs.declared.changer.state.ChangerState.{ChangerState}
use Rattle.mdb_cash.specs.declared.changer.activity.ChangerActivity.{ChangerActivity}
use Rattle.mdb_cash.specs.declared.changer.activity.ChangerActivity.TheVariants.{Dispensed, CashBox, Tube}
use Rattle.mdb_machine.specs.declared.choice.Choice.{Choice}
use Rattle.mdb_machine.specs.declared.choice.Choice.TheVariants.{Lost}
use Rattle.mdb_machine.specs.declared.gains.Gains.{Gains}
use Rattle.mdb_cash.specs.ChangerFacts.{Facts, known_of, tables}
use Rattle.mdb_machine.specs.Gains.{Stays, controller_gains, device_gains, in_slots, no_gains}
use Rattle.mdb_cash.specs.Credits.{counted}
use Rattle.mdb_machine.specs.KeeperConduct.{Conduct, StepKnowing}
use Rattle.mdb_machine.specs.Machine.{Machine, StartsIn}

-- the power-on state: nothing held, and no DISPENSE owed
abbrev pub power_on : ChangerState
power_on = record { holds = false; dispense_owed = false }

-- the value of a coin type by a setup table: its scaling factor times the type's credit; 0 for a
-- token, where the credit wasn't sent, and where there is no table yet
abbrev pub coin_value : Option ChangerSetup → ℕ → ℕ
coin_value None coin = 0
coin_value (Some setup) coin = setup.scaling * counted (credit_of setup.credits.items coin)

-- the value of what Y1 of DISPENSE asks for: the count in its high half, the type in its low half
abbrev pub dispensed_value : Option ChangerSetup → ℕ → ℕ
dispensed_value setup coins = (coins / 16) * coin_value setup (coins % 16)

-- what a kept message adds to coins-in: a deposit to cash box or tube
abbrev pub deposited : Option ChangerSetup → ChangerActivity → ℕ
deposited setup (CashBox coin) = coin_value setup coin
deposited setup (Tube coin) = coin_value setup coin
deposited setup (Dispensed count coin) = 0

-- what it adds to paid-out: coins dispensed by hand
abbrev pub paid_by_hand : Option ChangerSetup → ChangerActivity → ℕ
paid_by_hand setup (Dispensed count coin) = count * coin_value setup coin
paid_by_hand setup _ = 0

-- a new deposit is of a type that is enabled; coins may be dispensed by hand at any time
abbrev pub MayBeNew : Facts → ChangerActivity → Type 0
MayBeNew facts (CashBox coin) = facts.enabled coin ≡ true
MayBeNew facts (Tube coin) = facts.enabled coin ≡ true
MayBeNew facts (Dispensed count coin) = Unit {0}

-- whether this is Y1 of the last DISPENSE asked
abbrev pub is_last : Option ℕ → ℕ → Bool
is_last None coins = false
is_last (Some last) coins = last == coins

-- The controller asks for coins. While a DISPENSE is owed, the same block is the same DISPENSE
-- again; any other is new, and the controller has paid it out.
abbrev pub DispenseStep : Facts → ℕ → ChangerState → ChangerState → Gains → Type 0
DispenseStep facts coins before after gains =
    (after ≡ record before { dispense_owed = true })
    × (gains ≡ (if before.dispense_owed && is_last facts.last_asked coins
    then no_gains
    else controller_gains (in_slots (0 ∷ dispensed_value facts.setup coins ∷ []))))

-- The controller asks: after RESET nothing is owed.
abbrev pub AskStep : Facts → ChangerCommand → ChangerState → ChangerState → Gains → Type 0
AskStep facts (changer.Dispense coins) before after gains =
    DispenseStep facts coins before after gains
AskStep facts changer.Reset before after gains =
    (after ≡ record before { dispense_owed = false }) × (gains ≡ no_gains)
AskStep facts _ before after gains = Stays before after gains

-- whether the controller owes a DISPENSE after the changer's ACK: where it hears that, no longer
abbrev pub owed_acked : Choice → Bool → Bool
owed_acked Lost owed = owed
owed_acked choice owed = false

-- The changer takes a command that isn't POLL, by its ACK (of POLL `KeeperSteps` tells): after
-- RESET it holds nothing. It has dispensed what DISPENSE asked for, and that is owed no longer if
-- the controller hears it.
abbrev pub TakeStep : Facts → ChangerCommand → Choice → ChangerState → ChangerState → Gains → Type 0
TakeStep facts changer.Reset choice before after gains =
    (after ≡ record before { holds = false }) × (gains ≡ no_gains)
TakeStep facts (changer.Dispense coins) choice before after gains =
    (after ≡ record before { dispense_owed = owed_acked choice before.dispense_owed })
    × (gains ≡ device_gains (in_slots (0 ∷ dispensed_value facts.setup coins ∷ [])))
TakeStep facts _ choice before after gains = Stays before after gains

-- whether the controller asks for coins by a command
abbrev pub asks_coins : ChangerCommand → Bool
asks_coins (changer.Dispense coins) = true
asks_coins _ = false

-- What the changer does of its own. Data answers SETUP, TUBE STATUS, POLL and IDENTIFICATION alone:
-- the changer answers all other commands by ACK or NAK, RESET, COIN TYPE and DISPENSE among them,
-- so what it does after those stands in `TakeStep`. After a reset message the controller knows that
-- nothing is owed.
abbrev pub conduct : Conduct ChangerCommand ChangerSetup ℕ ChangerActivity ChangerState
conduct =
    record {
      power_on = power_on;
      holds = λ state. state.holds;
      with_holds = λ holding state. record state { holds = holding };
      holds_as_set = λ holding state. refl;
      same_as_set = λ state. refl;
      Asks = AskStep;
      Acks = TakeStep;
      TellsNews = λ facts choice news before after.
          AllByRecursion (MayBeNew facts) news × (after ≡ before);
      gain = λ facts slot message. in_slots
          (deposited facts.setup message ∷ paid_by_hand facts.setup message ∷ []) slot;
      asks_amount = asks_coins;
      tells_amount = λ message. true;
      heard_reset = λ state. record state { dispense_owed = false };
    }

-- The machine of the changer in a recording that begins so.
abbrev pub machine : Beginning → Machine ChangerState
machine begins = record {
  Starts = StartsIn power_on begins;
  Step = λ acts. StepKnowing tables conduct (known_of begins acts);
}
