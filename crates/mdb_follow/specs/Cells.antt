-- How cells are moved and joined, and which accounts they have. This serves private functions, and
-- `Report::of`.
use Rattle.std.specs.Prelude.{ℕ, ℤ, pos, ◌+ℤ◌, ◌-ℤ◌, List, [], get_or, slice_index, ◌<◌}
use Rattle.std.specs.Int.{int_max, int_min}
use Rattle.mdb_msgs.specs.declared.command.Device.{Device}
use Rattle.mdb_machine.specs.declared.gains.Gains.{Gains}
use Rattle.mdb_machine.specs.Gains.{by_slot}
use Rattle.mdb_follow.specs.declared.range.Range.{Range}
use Rattle.mdb_follow.specs.declared.account.Account.{Account}
use Rattle.mdb_follow.specs.declared.account_name.AccountName.{AccountName}
use Rattle.mdb_follow.specs.declared.cell.Cell.{Cell}
use Rattle.mdb_follow.specs.AccountNames.{account_device, account_slot}
use Rattle.mdb_follow.specs.ReportedDevices.{device_place}
use Rattle.mdb_follow.specs.Ranges.{no_account}
use Rattle.mdb_machine.specs.declared.gains.TheConstants.{SLOTS}
use Rattle.mdb_follow.specs.Sums.{Sums}
use Rattle.mdb_follow.specs.AccountRanges.{IsAccount}

-- ranges with so much added
abbrev pub moved_range : Range → ℤ → Range
moved_range range by = record { least = range.least +ℤ by; greatest = range.greatest +ℤ by }

abbrev pub moved_account : Account → ℕ → ℕ → Account
moved_account ranges device controller = record {
  device = moved_range ranges.device (pos device);
  controller = moved_range ranges.controller (pos controller);
  difference = moved_range ranges.difference (pos device -ℤ pos controller);
}

-- the ranges of what is in one of two
abbrev pub joined_range : Range → Range → Range
joined_range one other = record {
  least = int_min one.least other.least;
  greatest = int_max one.greatest other.greatest;
}

abbrev pub joined_account : Account → Account → Account
joined_account one other = record {
  device = joined_range one.device other.device;
  controller = joined_range one.controller other.controller;
  difference = joined_range one.difference other.difference;
}

-- the cell of a device, of those of all in the order of a report
abbrev pub cell_in : List Cell → Device → Cell
cell_in cells device = get_or cells (device_place device) (record { accounts = [] })

-- the account in a slot
abbrev pub slot_account : Cell → ℕ → Account
slot_account cell slot = get_or cell.accounts slot no_account

abbrev pub moved_slot : Cell → Gains → ℕ → Account
moved_slot cell gains slot =
    moved_account (slot_account cell slot) (slice_index gains.device slot)
    (slice_index gains.controller slot)

unfoldable pub moved_cell : Cell → Gains → Cell
moved_cell cell gains = record { accounts = by_slot (moved_slot cell gains) }

abbrev pub joined_slot : Cell → Cell → ℕ → Account
joined_slot one other slot = joined_account (slot_account one slot) (slot_account other slot)

unfoldable pub joined_cell : Cell → Cell → Cell
joined_cell one other = record { accounts = by_slot (joined_slot one other) }

-- the account, where the devices have these cells
abbrev pub account_by : (Device → Cell) → AccountName → Account
account_by cells account = slot_account (cells (account_device account)) (account_slot account)

-- those of each account
abbrev pub IsCell : (Sums → Type 0) → Cell → Type 0
IsCell Kind cell = (slot : ℕ) → slot < SLOTS
    → IsAccount Kind (λ sums. sums slot) (slot_account cell slot)
