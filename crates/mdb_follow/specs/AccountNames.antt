-- The accounts of a report by name: a table of them, and what each is in a run and in a report.
use Rattle.std.specs.Prelude.{ℕ, List, codes, get_or}
use Rattle.mdb_msgs.specs.declared.command.Device.{Device}
use Rattle.mdb_msgs.specs.declared.command.Device.TheVariants as devices
use Rattle.mdb_msgs.specs.declared.command.ReaderUnit.TheVariants.{First, Second}
use Rattle.mdb_follow.specs.declared.account.Account.{Account}
use Rattle.mdb_follow.specs.declared.account_name.AccountName.{AccountName}
use Rattle.mdb_follow.specs.declared.account_name.AccountName.TheVariants.{CoinsIn, BillsIn}
use Rattle.mdb_follow.specs.declared.account_name.AccountName.TheVariants.{PaidOut, Approved, Sold}
use Rattle.mdb_follow.specs.declared.report.Report.{Report}
use Rattle.mdb_follow.specs.Ranges.{no_account}
use Rattle.mdb_follow.specs.Runs.{AllSums}
use Rattle.mdb_follow.specs.Sums.{AccountSums}

-- What is stated of an account: its word, the device that keeps it and the controller with it, its
-- slot among that device's accounts, and its place in a report. Both count from 0.
pub record AccountRow : Type 0 where
  pub word : List ℕ
  pub device : Device
  pub slot : ℕ
  pub place : ℕ

abbrev row : List ℕ → Device → ℕ → ℕ → AccountRow
row word device slot place =
    record { word = word; device = device; slot = slot; place = place }

-- the accounts, one by one
abbrev pub account_row : AccountName → AccountRow
account_row CoinsIn = row (codes "coins-in") devices.Changer 0 0
account_row BillsIn = row (codes "bills-in") devices.Bill 0 1
account_row PaidOut = row (codes "paid-out") devices.Changer 1 2
account_row (Approved First) = row (codes "approved") (devices.Reader First) 0 3
account_row (Sold First) = row (codes "sold") (devices.Reader First) 1 4
account_row (Approved Second) = row (codes "approved-2") (devices.Reader Second) 0 5
account_row (Sold Second) = row (codes "sold-2") (devices.Reader Second) 1 6

-- its word
abbrev pub account_word : AccountName → List ℕ
account_word account = (account_row account).word

-- its device
abbrev pub account_device : AccountName → Device
account_device account = (account_row account).device

-- its slot there
abbrev pub account_slot : AccountName → ℕ
account_slot account = (account_row account).slot

-- its place in a report
abbrev pub account_place : AccountName → ℕ
account_place account = (account_row account).place

-- what it has come to in a run with these sums
abbrev pub sums_of : AccountName → AllSums → AccountSums
sums_of account sums = sums (account_device account) (account_slot account)

-- an account of a list in the order of a report
abbrev pub account_in : AccountName → List Account → Account
account_in account accounts = get_or accounts (account_place account) no_account

-- what a report has of an account
abbrev pub account_of : AccountName → Report → Account
account_of account report = account_in account report.accounts
