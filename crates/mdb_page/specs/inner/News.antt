-- What commands and messages tell, and the entries of it. This file serves private functions: no
-- public clause cites it.
use Rattle.std.specs.Prelude.{◌≡◌, ◌≢◌, ◌+◌, ◌-◌, ◌/◌, ◌%◌, ◌^◌, ◌<◌, ◌≤◌, ◌==◌, ◌⊎◌, ℕ, Bool, false, List, Option, Some, None, option_map, if◌then◌else◌}
use Rattle.mdb_msgs.specs.declared.command.BillCommand.{BillCommand}
use Rattle.mdb_msgs.specs.declared.command.BillCommand.TheVariants as bill
use Rattle.mdb_msgs.specs.declared.command.ChangerCommand.{ChangerCommand}
use Rattle.mdb_msgs.specs.declared.command.ChangerCommand.TheVariants as changer
use Rattle.mdb_msgs.specs.declared.command.Device.{Device}
use Rattle.mdb_msgs.specs.declared.command.ReaderCommand.{ReaderCommand}
use Rattle.mdb_msgs.specs.declared.command.ReaderCommand.TheVariants as reader
use Rattle.mdb_msgs.specs.declared.reply.reader.ReaderMsg.{ReaderMsg}
use Rattle.mdb_msgs.specs.declared.reply.reader.ReaderMsg.TheVariants as messages
use Rattle.mdb_msgs.specs.declared.reply.setup.BillSetup.{BillSetup}
use Rattle.mdb_msgs.specs.declared.reply.setup.ChangerSetup.{ChangerSetup}
use Rattle.mdb_msgs.specs.declared.setups.ReaderConfig.{ReaderConfig}
use Rattle.mdb_msgs.specs.Setup.{credit_of}
use Rattle.mdb_cash.specs.Bill.{bill_value}
use Rattle.mdb_cash.specs.Changer.{deposited, dispensed_value, paid_by_hand}
use Rattle.mdb_cash.specs.declared.bill.activity.BillActivity.{BillActivity}
use Rattle.mdb_cash.specs.declared.bill.activity.BillActivity.TheVariants as bills
use Rattle.mdb_cash.specs.declared.changer.activity.ChangerActivity.{ChangerActivity}
use Rattle.mdb_cash.specs.declared.changer.activity.ChangerActivity.TheVariants as coins
use Rattle.mdb_cashless.specs.Reader.{value}
use Rattle.mdb_machine.specs.declared.kept.Part.{Part}
use Rattle.mdb_machine.specs.declared.kept.Part.TheVariants as part
use Rattle.mdb_page.specs.Acts.{device_number}
use Rattle.mdb_page.specs.declared.news.Fact.{Fact}
use Rattle.mdb_page.specs.declared.news.Kind.{Kind}
use Rattle.mdb_page.specs.declared.news.Kind.TheVariants as kinds
use Rattle.mdb_page.specs.declared.news.PageNews.{PageNews}
use Rattle.mdb_page.specs.declared.news.Tally.{Tally}
use Rattle.mdb_page.specs.declared.rows.Rows.{Rows}
use Rattle.mdb_page.specs.declared.worth.Worth.{Worth}
use Rattle.mdb_page.specs.declared.worth.Worth.TheVariants.{Known, Nothing, Unknown}

-- what an amount is worth, where a device has told its decimal places or has told nothing
abbrev pub worth_of : Option ℕ → ℕ → Worth
worth_of None amount = Unknown
worth_of (Some decimals) amount = Known amount decimals

-- whether coins or bills of a type are tokens, by the credits of a setup table
abbrev pub is_token : Option (List ℕ) → ℕ → Bool
is_token None number = false
is_token (Some credits) number = credit_of credits number == 255

-- what is told of an item, or of none: then its number is 0
abbrev pub item_fact : Kind → ℕ → Worth → Fact
item_fact kind item worth = record {
  kind = kind;
  number = item;
  count = 1;
  worth = worth;
  is_token = false;
}

abbrev pub plain_fact : Kind → Fact
plain_fact kind = item_fact kind 0 Nothing

-- what is told of so many coins of a type, which come to an amount
abbrev pub coins_fact : Option ChangerSetup → Kind → ℕ → ℕ → ℕ → Fact
coins_fact setup kind coin count amount = record {
  kind = kind;
  number = coin;
  count = count;
  worth = worth_of (option_map (λ setup. setup.decimals) setup) amount;
  is_token = is_token (option_map (λ setup. setup.credits.items) setup) coin;
}

-- what is told of a bill of a type
abbrev pub bill_fact : Option BillSetup → Kind → ℕ → Fact
bill_fact setup kind number = record {
  kind = kind;
  number = number;
  count = 1;
  worth = worth_of (option_map (λ setup. setup.decimals) setup) (bill_value setup number);
  is_token = is_token (option_map (λ setup. setup.credits.items) setup) number;
}

-- what a reader's amount is worth
abbrev pub amount_worth : Option ReaderConfig → ℕ → Worth
amount_worth config number =
    worth_of (option_map (λ config. config.decimals) config) (value config number)

-- what a command to the changer tells
abbrev pub changer_asked : Option ChangerSetup → ChangerCommand → Option Fact
changer_asked setup changer.Reset = Some (plain_fact kinds.Reset)
changer_asked setup (changer.Dispense coins) =
    Some (coins_fact setup kinds.Ordered (coins % 16) (coins / 16) (dispensed_value setup coins))
changer_asked setup command = None

-- what a command to the validator tells
abbrev pub bill_asked : BillCommand → Option Fact
bill_asked bill.Reset = Some (plain_fact kinds.Reset)
bill_asked command = None

-- what a command to a reader tells
abbrev pub reader_asked : Option ReaderConfig → ReaderCommand → Option Fact
reader_asked config reader.Reset = Some (plain_fact kinds.Reset)
reader_asked config (reader.VendRequest price item) =
    Some (item_fact kinds.VendRequest item (amount_worth config price))
reader_asked config (reader.CashSale price item) =
    Some (item_fact kinds.CashSale item (amount_worth config price))
reader_asked config (reader.VendSuccess item) = Some (item_fact kinds.Success item Nothing)
reader_asked config reader.VendCancel = Some (plain_fact kinds.Cancel)
reader_asked config reader.VendFailure = Some (plain_fact kinds.Failure)
reader_asked config reader.SessionComplete = Some (plain_fact kinds.SessionComplete)
reader_asked config command = None

-- what a kept message of the changer tells: its coins come to what they add to coins-in or to
-- paid-out where it is new
abbrev pub coins_told : Option ChangerSetup → ChangerActivity → Fact
coins_told setup (coins.Tube coin) =
    coins_fact setup kinds.Tube coin 1 (deposited setup (coins.Tube coin))
coins_told setup (coins.CashBox coin) =
    coins_fact setup kinds.CashBox coin 1 (deposited setup (coins.CashBox coin))
coins_told setup (coins.Dispensed count coin) =
    coins_fact setup kinds.ByHand coin count (paid_by_hand setup (coins.Dispensed count coin))

-- what a message of the changer tells: nothing, where it is about no coin
abbrev pub changer_told : Option ChangerSetup → Part ChangerActivity → Option Fact
changer_told setup (part.Kept kept) =
    if (coins_told setup kept).count == 0 then None else Some (coins_told setup kept)
changer_told setup part.Reset = Some (plain_fact kinds.ResetTold)
changer_told setup part.Other = None

-- what a message of the validator tells
abbrev pub bill_told : Option BillSetup → Part BillActivity → Option Fact
bill_told setup (part.Kept (bills.Stacked number)) = Some (bill_fact setup kinds.Stacked number)
bill_told setup (part.Kept (bills.Escrow number)) = Some (bill_fact setup kinds.Escrow number)
bill_told setup (part.Kept (bills.Returned number)) = Some (bill_fact setup kinds.Returned number)
bill_told setup (part.Kept (bills.Recycled number)) = Some (bill_fact setup kinds.Recycled number)
bill_told setup part.Reset = Some (plain_fact kinds.ResetTold)
bill_told setup part.Other = None

-- what the funds of a session are worth: with FFFF the reader doesn't know them
abbrev pub funds_worth : Option ReaderConfig → ℕ → Worth
funds_worth config funds = if funds == 65535 then Nothing else amount_worth config funds

-- what a message of a reader tells: 03 its funds, in either form
abbrev pub reader_told : Option ReaderConfig → ReaderMsg → Option Fact
reader_told config messages.JustReset = Some (plain_fact kinds.ResetTold)
reader_told config (messages.BeginSession funds) =
    Some (item_fact kinds.SessionBegun 0 (funds_worth config funds))
reader_told config (messages.BeginSessionLong funds media kind details) =
    Some (item_fact kinds.SessionBegun 0 (funds_worth config funds))
reader_told config (messages.VendApproved amount) =
    Some (item_fact kinds.Approved 0 (amount_worth config amount))
reader_told config messages.VendDenied = Some (plain_fact kinds.Denied)
reader_told config messages.EndSession = Some (plain_fact kinds.SessionEnded)
reader_told config message = None

-- the numbers of the kinds
abbrev pub kind_number : Kind → ℕ
kind_number kinds.Tube = 0
kind_number kinds.CashBox = 1
kind_number kinds.ByHand = 2
kind_number kinds.Ordered = 3
kind_number kinds.Stacked = 4
kind_number kinds.Escrow = 5
kind_number kinds.Returned = 6
kind_number kinds.VendRequest = 7
kind_number kinds.CashSale = 8
kind_number kinds.Approved = 9
kind_number kinds.Denied = 10
kind_number kinds.Success = 11
kind_number kinds.Cancel = 12
kind_number kinds.Failure = 13
kind_number kinds.SessionBegun = 14
kind_number kinds.SessionComplete = 15
kind_number kinds.SessionEnded = 16
kind_number kinds.ResetTold = 17
kind_number kinds.Reset = 18
kind_number kinds.Break = 19
kind_number kinds.Silence = 20
kind_number kinds.SetupTold = 21
kind_number kinds.Recycled = 22

-- An entry shows what something is worth.
abbrev pub ShowsWorth : PageNews → Worth → Type 0
ShowsWorth entry Nothing = (entry.worth ≡ 0) × (entry.amount ≡ 0)
ShowsWorth entry Unknown = (entry.worth ≡ 1) × (entry.amount ≡ 0)
ShowsWorth entry (Known amount decimals) =
    (entry.worth ≡ 2) × (entry.amount ≡ amount) × (entry.decimals ≡ decimals)

-- An entry shows what an act of a device told, which has these rows.
pub record ShowsFact (rows : Rows) (device : Device) (fact : Fact) (entry : PageNews)
    : Type 0 where
  pub first : entry.first ≡ rows.first
  pub last : entry.last ≡ rows.last
  pub start : entry.start ≡ rows.start
  pub end : entry.end ≡ rows.end
  pub shown_worth : ShowsWorth entry fact.worth
  pub same_count : entry.count ≡ fact.count
  pub same_number : entry.number ≡ fact.number
  pub same_kind : entry.kind ≡ kind_number fact.kind
  pub same_device : entry.device ≡ device_number device
  pub token : entry.is_token ≡ (if fact.is_token then 1 else 0)

-- A tally counts one entry more. It has a place if none is to be passed over any more, and there is
-- room: that after those that were put.
pub record Counts (room : ℕ) (was now : Tally) (place : Option ℕ) : Type 0 where
  pub counted : was.entries + 1 < 2 ^ 64 → now.entries ≡ was.entries + 1
  pub passed : now.skip ≡ was.skip - 1
  pub put : (was.skip ≡ 0) → was.put < room
      → (place ≡ Some was.put) × (now.put ≡ was.put + 1)
  pub skipped : (was.skip ≢ 0) ⊎ (room ≤ was.put) → (place ≡ None) × (now.put ≡ was.put)
