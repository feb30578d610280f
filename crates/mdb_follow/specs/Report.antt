-- What is reported of rows that can have been.
use Rattle.std.specs.Prelude.{◌≡◌, ℕ, List, length, map, Option, None, get_or}
use Rattle.mdb_words.specs.declared.event.Event.{Event}
use Rattle.mdb_msgs.specs.declared.command.Device.{Device}
use Rattle.mdb_bus.specs.declared.act.Act.{Act}
use Rattle.mdb_bus.specs.ActLists.{IsActList, Piece, acts_of}
use Rattle.mdb_bus.specs.ExtendedTimes.{times_of}
use Rattle.mdb_bus.specs.declared.scope.Beginning.{Beginning}
use Rattle.mdb_follow.specs.declared.account_name.AccountName.{AccountName}
use Rattle.mdb_follow.specs.declared.account_name.TheConstants.AccountName.{ALL}
use Rattle.mdb_follow.specs.declared.account.Account.{Account}
use Rattle.mdb_follow.specs.declared.report.DeviceReport.{DeviceReport}
use Rattle.mdb_follow.specs.declared.report.Report.{Report}
use Rattle.mdb_follow.specs.declared.report.DeviceFacts.{DeviceFacts}
use Rattle.mdb_follow.specs.declared.report.TheConstants.Report.{DEVICES}
use Rattle.mdb_follow.specs.AccountNames.{sums_of}
use Rattle.mdb_follow.specs.ReportedDevices.{device_place, reported_of}
use Rattle.mdb_follow.specs.AccountRanges.{IsAccount}
use Rattle.mdb_follow.specs.Runs.{AllSums, IsReached, Run}
use Rattle.mdb_follow.specs.Silences.{asks_of, counts_of, no_counts}
use Rattle.mdb_bus.specs.declared.scope.Scope.{Scope}

-- The accounts are those of sums of a kind.
abbrev pub AreAccounts : (AllSums → Type 0) → (AccountName → Account) → Type 0
AreAccounts Kind accounts =
    (account : AccountName) → IsAccount Kind (sums_of account) (accounts account)

-- the decimal places of a device after these acts, in a recording that begins so
abbrev pub decimals_of : Beginning → Device → List Act → Option ℕ
decimals_of begins device acts =
    (reported_of device).decimals ((reported_of device).known begins acts)

-- how many amounts these acts tell of a device that have no value, since nothing tells how it is
-- set up
abbrev pub unvalued_of : Beginning → Device → List Act → ℕ
unvalued_of begins device = (reported_of device).unvalued begins

-- what these acts show of a device
abbrev pub device_facts_of : Beginning → Device → List Act → DeviceFacts
device_facts_of begins device acts = record {
  decimals = decimals_of begins device acts;
  unvalued = unvalued_of begins device acts;
}

-- what is reported of a device beside its accounts, after these pieces
abbrev pub device_report_of : Beginning → Device → List Piece → DeviceReport
device_report_of begins device pieces = record {
  facts = device_facts_of begins device (acts_of pieces);
  asks = counts_of (asks_of begins device pieces);
}

-- what is shown of a device that isn't there
abbrev pub no_facts : DeviceFacts
no_facts = record { decimals = None; unvalued = 0 }

-- the facts of a device, of those of all in the order of a report
abbrev pub device_facts_in : List DeviceFacts → Device → DeviceFacts
device_facts_in facts device = get_or facts (device_place device) no_facts

-- what a report has of a device beside its accounts: its decimal places, how many amounts without a
-- value, and how many silences
abbrev pub device_report : Device → Report → DeviceReport
device_report device report =
    get_or report.devices (device_place device)
    (record { facts = no_facts; asks = no_counts })

abbrev pub device_decimals : Device → Report → Option ℕ
device_decimals device report = (device_report device report).facts.decimals

abbrev pub device_unvalued : Device → Report → ℕ
device_unvalued device report = (device_report device report).facts.unvalued

abbrev pub device_silences : Device → Report → ℕ
device_silences device report = (device_report device report).asks.silences

-- the report of so many rows, which are these pieces of a recording that is taken so, with these
-- accounts
abbrev pub report_of : Scope → ℕ → List Piece → (AccountName → Account) → Report
report_of scope rows pieces accounts = record {
  rows = rows;
  devices = map (λ device. device_report_of scope.begins device pieces) DEVICES;
  untimely = times_of scope pieces;
  accounts = map accounts ALL;
}

-- The report on rows that are reached: each end of each range is the value of some run, and no
-- run's lies outside. What is reported of each device beside its accounts is of the act list.
pub record IsReport (scope : Scope) (events : List Event) (report : Report) : Type 0 where
  pub reached : IsReached scope events
  pub pieces : List Piece
  pub act_list : IsActList scope pieces events
  pub accounts : AccountName → Account
  pub of_runs : AreAccounts (Run scope events) accounts
  pub telling : report ≡ report_of scope (length events) pieces accounts
