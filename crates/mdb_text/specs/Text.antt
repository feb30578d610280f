-- The text of an outcome.
use Rattle.std.specs.Prelude.{ℕ, List, [], ◌∷◌, ◌++◌, Option, Some, None, codes, if◌then◌else◌}
use Rattle.std.specs.Prelude.{get_or, map}
use Rattle.std.specs.Fmt.{decimal, signed_decimal}
use Rattle.std.specs.List.{flat_map}
use Rattle.mdb_msgs.specs.declared.command.Device.{Device}
use Rattle.mdb_msgs.specs.declared.device_set.DeviceSet.{DeviceSet}
use Rattle.mdb_msgs.specs.DeviceSets.{has}
use Rattle.mdb_msgs.specs.Devices.{device_word}
use Rattle.mdb_bus.specs.declared.untimely.Untimely.{Untimely}
use Rattle.mdb_bus.specs.FaultWords.{blame_word, rule_word}
use Rattle.mdb_follow.specs.declared.account_name.AccountName.{AccountName}
use Rattle.mdb_follow.specs.declared.account_name.TheConstants.AccountName.{ALL}
use Rattle.mdb_follow.specs.declared.account.Account.{Account}
use Rattle.mdb_follow.specs.declared.goal.AccountSide.TheVariants as sides
use Rattle.mdb_follow.specs.declared.offence.Offence.{Offence}
use Rattle.mdb_follow.specs.declared.range.Range.{Range}
use Rattle.mdb_follow.specs.declared.report.Report.{Report}
use Rattle.mdb_follow.specs.declared.report.TheConstants.Report.{DEVICES}
use Rattle.mdb_follow.specs.AccountNames.{account_of, account_word}
use Rattle.mdb_follow.specs.ReportedDevices.{device_place}
use Rattle.mdb_follow.specs.Ends.{side_range}
use Rattle.mdb_follow.specs.Report.{device_decimals, device_silences, device_unvalued}
use Rattle.mdb_text.specs.declared.outcome.Outcome.{Outcome}
use Rattle.mdb_text.specs.declared.outcome.Outcome.TheVariants.{Yes, No}
use Rattle.mdb_text.specs.Accounts.{side_word}
use Rattle.mdb_bus.specs.declared.scope.Beginning.{Beginning}
use Rattle.mdb_bus.specs.declared.scope.Beginning.TheVariants.{PowerOn, Joined}
use Rattle.mdb_bus.specs.declared.scope.Scope.{Scope}
use Rattle.mdb_text.specs.Known.{known_devices}

-- a line of a text
abbrev pub line : List ℕ → List ℕ
line words = words ++ 10 ∷ []

-- how many decimal places a device told of, after its word, or a dash where it told of none
abbrev pub places_text : Device → Option ℕ → List ℕ
places_text device (Some places) =
    codes " " ++ device_word device ++ codes " " ++ decimal places
places_text device None = codes " " ++ device_word device ++ codes " -"

-- how many decimal places each device told of
abbrev pub decimals_line : Report → List ℕ
decimals_line report =
    line (codes "decimals"
    ++ flat_map (λ device. places_text device (device_decimals device report)) DEVICES)

-- a count of a device, after its word
abbrev pub count_text : Device → ℕ → List ℕ
count_text device count = codes " " ++ device_word device ++ codes " " ++ decimal count

-- a word, and after it a count of each device, of these in the order of a report
abbrev pub counts_line : List ℕ → List ℕ → List ℕ
counts_line word counts =
    line (word ++ flat_map (λ device. count_text device (get_or counts (device_place device) 0))
    DEVICES)

-- how many silences each device had
abbrev pub silences_line : Report → List ℕ
silences_line report =
    counts_line (codes "silences") (map (λ device. device_silences device report) DEVICES)

-- a word, and after it how many rows of each sender came out of their time
abbrev pub untimely_counts : List ℕ → Untimely → List ℕ
untimely_counts word counts =
    line (word ++ codes " controller " ++ decimal counts.controller
    ++ codes " changer " ++ decimal counts.changer ++ codes " bill " ++ decimal counts.bill
    ++ codes " cashless " ++ decimal counts.cashless
    ++ codes " cashless-2 " ++ decimal counts.cashless2)

-- the same, where such rows are counted; else there is no line
abbrev pub untimely_line : List ℕ → Option Untimely → List ℕ
untimely_line word None = []
untimely_line word (Some counts) = untimely_counts word counts

-- how many amounts each device told, or was asked for, that have no value
abbrev pub unvalued_line : Report → List ℕ
unvalued_line report =
    counts_line (codes "unvalued") (map (λ device. device_unvalued device report) DEVICES)

-- what an account comes to on one side: the least and the greatest
abbrev pub side_text : List ℕ → Range → List ℕ
side_text word range =
    codes " " ++ word ++ codes " " ++ signed_decimal range.least ++ codes ".."
    ++ signed_decimal range.greatest

-- what an account comes to on each side, after its word
abbrev pub account_line : AccountName → Account → List ℕ
account_line name account =
    line (account_word name ++ side_text (side_word sides.Device) (side_range sides.Device account)
    ++ side_text (side_word sides.Controller) (side_range sides.Controller account)
    ++ side_text (side_word sides.Difference) (side_range sides.Difference account))

-- a line for each account of a report
abbrev pub accounts_text : Report → List ℕ
accounts_text report = flat_map (λ name. account_line name (account_of name report)) ALL

-- the first lines of a yes
abbrev pub head_text : ℕ → List ℕ
head_text rows = line (codes "verdict yes") ++ line (codes "rows " ++ decimal rows)

-- the word of a device, if it is one of a set
abbrev pub word_in : DeviceSet → Device → List ℕ
word_in set device = if has set device then codes " " ++ device_word device else []

-- the words of the devices of a set, in the order of a report
abbrev pub devices_text : DeviceSet → List ℕ
devices_text set = flat_map (word_in set) DEVICES

-- the line of a word and of these words of devices, if there are any
abbrev pub line_of_devices : List ℕ → List ℕ → List ℕ
line_of_devices word [] = []
line_of_devices word (byte ∷ bytes) = line (word ++ byte ∷ bytes)

-- the line of the devices that are left out; there is none where none is
abbrev pub without_line : Scope → List ℕ
without_line scope = line_of_devices (codes "without") (devices_text scope.without)

-- what is said of where the recording begins: from power-on on nothing; in mid-session what has no
-- value, and then the line of the devices of which setup data are known, where there are some
abbrev pub beginning_text : Beginning → Report → List ℕ
beginning_text (PowerOn profile) report = []
beginning_text (Joined setups profile) report =
    unvalued_line report ++ line_of_devices (codes "setup") (devices_text (known_devices setups))

-- the four lines of a no
abbrev pub offence_text : Offence → List ℕ
offence_text offence =
    line (codes "verdict no") ++ line (codes "row " ++ decimal offence.row)
    ++ line (codes "rule " ++ rule_word offence.rule)
    ++ line (codes "blame " ++ blame_word offence.blame)

-- the lines of a yes after the first ones
abbrev pub report_lines : Scope → Report → List ℕ
report_lines scope report =
    decimals_line report ++ accounts_text report ++ silences_line report
    ++ untimely_line (codes "untimely") report.untimely
    ++ beginning_text scope.begins report ++ without_line scope

-- what is written for an outcome
abbrev pub report_text : Scope → Outcome → List ℕ
report_text scope (Yes report) = head_text report.rows ++ report_lines scope report
report_text scope (No offence) = offence_text offence
