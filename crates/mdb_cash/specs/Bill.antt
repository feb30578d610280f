-- The validator and the controller's dealings with it (MDB/ICP 4.3, bill validator; states and
-- sums, this profile). The account is bills-in.
use Rattle.std.specs.Prelude.{◌≡◌, refl, ◌⊎◌, ℕ, ◌*◌, ◌%◌, Bool, true, false, List, [], ◌∷◌, Option, Some, None, ◌==◌, if◌then◌else◌}
use Rattle.std.specs.declared.convert.Infallible.{Infallible}
use Rattle.mdb_msgs.specs.declared.command.BillCommand.{BillCommand}
use Rattle.mdb_msgs.specs.declared.command.BillCommand.TheVariants as bill
use Rattle.mdb_msgs.specs.declared.reply.setup.BillSetup.{BillSetup}
use Rattle.mdb_msgs.specs.Setup.{credit_of}
use Rattle.mdb_bus.specs.declared.scope.Beginning.{Beginning}
use Rattle.mdb_cash.specs.declared.bill.activity.BillActivity.{BillActivity}
use Rattle.mdb_cash.specs.declared.bill.activity.BillActivity.TheVariants as activity
use Rattle.mdb_cash.specs.declared.bill.state.BillState.{BillState}
use Rattle.mdb_cash.specs.declared.bill.state.BillType.{BillType}
use Rattle.mdb_cash.specs.declared.bill.state.Escrow.{Escrow}
use Rattle.mdb_cash.specs.declared.bill.state.Escrow.TheVariants.{Empty, Waiting, Ordered}
use Rattle.mdb_machine.specs.declared.choice.Choice.{Choice}
use Rattle.mdb_machine.specs.declared.choice.Choice.TheVariants.{Restart}
use Rattle.mdb_machine.specs.declared.gains.Gains.{Gains}
use Rattle.mdb_cash.specs.BillFacts.{Facts, known_of, tables}
use Rattle.mdb_cash.specs.Credits.{counted}
use Rattle.mdb_machine.specs.Gains.{Stays, in_slots, no_gains}
use Rattle.mdb_machine.specs.KeeperConduct.{Conduct, StepKnowing}
use Rattle.mdb_machine.specs.Machine.{Machine, StartsIn}

-- the power-on state: nothing in escrow, and nothing held
abbrev pub power_on : BillState
power_on = record { escrow = Empty; holds = false }

-- the value of a bill type by a setup table: its scaling factor times the type's credit; 0 where
-- that is FF or wasn't sent, and where there is no table yet
abbrev pub bill_value : Option BillSetup → ℕ → ℕ
bill_value None number = 0
bill_value (Some setup) number = setup.scaling * counted (credit_of setup.credits.items number)

-- what a kept message adds to bills-in: a bill that was stacked, or went to the recycler
abbrev pub stacked : Option BillSetup → BillActivity → ℕ
stacked setup (activity.Stacked number) = bill_value setup number
stacked setup (activity.Recycled number) = bill_value setup number
stacked setup _ = 0

-- A bill may be stacked, or go to the recycler, that never waited in escrow, or that waits there
-- with an order to stack it; one may be returned with an order or without one.
abbrev pub MayStack : BillType → Escrow → Type 0
MayStack type escrow = (escrow ≡ Empty) ⊎ (escrow ≡ Ordered type)

abbrev pub MayReturn : BillType → Escrow → Type 0
MayReturn type escrow = (escrow ≡ Empty) ⊎ (escrow ≡ Waiting type) ⊎ (escrow ≡ Ordered type)

-- What is in escrow before and after a new message that a bill was stacked, or went to the
-- recycler. Its type is enabled. There are no types past 15, so nothing may be told of one.
abbrev pub StacksBill : Facts → ℕ → Escrow → Escrow → Type 0
StacksBill facts number before after =
    (type : BillType) × (type.number ≡ number) × (facts.enabled number ≡ true)
    × MayStack type before × (after ≡ Empty)

-- And before and after a message that is new. A bill in escrow is of a type that is enabled too.
abbrev pub MovesBill : Facts → BillActivity → Escrow → Escrow → Type 0
MovesBill facts (activity.Stacked number) before after = StacksBill facts number before after
MovesBill facts (activity.Recycled number) before after = StacksBill facts number before after
MovesBill facts (activity.Escrow number) before after =
    (type : BillType) × (type.number ≡ number) × (facts.enabled number ≡ true)
    × (before ≡ Empty) × (after ≡ Waiting type)
MovesBill facts (activity.Returned number) before after =
    (type : BillType) × (type.number ≡ number) × MayReturn type before × (after ≡ Empty)

-- and after messages in order
abbrev pub MovesBills : Facts → List BillActivity → Escrow → Escrow → Type 0
MovesBills facts [] before after = after ≡ before
MovesBills facts (message ∷ messages) before after =
    (between : Escrow) × MovesBill facts message before between
    × MovesBills facts messages between after

-- what is in escrow after Y1 of an ESCROW that the validator takes: where the lowest bit is set,
-- a bill that waits there has its order
abbrev pub ordered : ℕ → Escrow → Escrow
ordered order (Waiting type) = if order % 2 == 1 then Ordered type else Waiting type
ordered order escrow = escrow

-- what is in escrow once a reply is read: after a restart, nothing
abbrev pub escrow_read : Choice → Escrow → Escrow
escrow_read Restart escrow = Empty
escrow_read choice escrow = escrow

-- The validator takes a command that isn't POLL, by its ACK (of POLL `KeeperSteps` tells): after
-- RESET it is in its power-on state.
abbrev pub TakeStep : BillCommand → BillState → BillState → Gains → Type 0
TakeStep bill.Reset before after gains = (after ≡ power_on) × (gains ≡ no_gains)
TakeStep (bill.Escrow order) before after gains =
    (after ≡ record before { escrow = ordered order before.escrow }) × (gains ≡ no_gains)
TakeStep _ before after gains = Stays before after gains

-- whether a kept message tells of a bill that was stacked, or went to the recycler
abbrev pub is_stacked : BillActivity → Bool
is_stacked (activity.Stacked number) = true
is_stacked (activity.Recycled number) = true
is_stacked _ = false

-- What the validator does of its own. Data answers SETUP, POLL, STACKER and IDENTIFICATION alone:
-- the validator answers all other commands by ACK or NAK, RESET, BILL TYPE and ESCROW among them,
-- so what it does after those stands in `TakeStep`. What is new moves what is in escrow.
abbrev pub conduct : Conduct BillCommand BillSetup Infallible BillActivity BillState
conduct =
    record {
      power_on = power_on;
      holds = λ state. state.holds;
      with_holds = λ holding state. record state { holds = holding };
      holds_as_set = λ holding state. refl;
      same_as_set = λ state. refl;
      Asks = λ facts command. Stays;
      Acks = λ facts command choice. TakeStep command;
      TellsNews = λ facts choice news before after.
          MovesBills facts news (escrow_read choice before.escrow) after.escrow
          × (after.holds ≡ before.holds);
      gain = λ facts slot message. in_slots (stacked facts.setup message ∷ []) slot;
      asks_amount = λ command. false;
      tells_amount = is_stacked;
      heard_reset = λ state. state;
    }

-- The machine of the validator in a recording that begins so.
abbrev pub machine : Beginning → Machine BillState
machine begins = record {
  Starts = StartsIn power_on begins;
  Step = λ acts. StepKnowing tables conduct (known_of begins acts);
}
