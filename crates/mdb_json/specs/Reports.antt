-- An answer as a JSON value.
use Rattle.std.specs.Prelude.{ℕ, List, [], ◌∷◌, ◌++◌, Bool, true, false, Option, Some, None, codes, map}
use Rattle.std.specs.List.{filter, fold}
use Rattle.serde_json.specs.Data.{Data, null, boolean, number, string, Members, object, no_members, put, unsigned}
use Rattle.serde_json.specs.Find.{of_integer}
use Rattle.mdb_msgs.specs.declared.command.Device.{Device}
use Rattle.mdb_msgs.specs.declared.device_set.DeviceSet.{DeviceSet}
use Rattle.mdb_msgs.specs.declared.device_set.TheConstants.DeviceSet.{NONE}
use Rattle.mdb_msgs.specs.DeviceSets.{has}
use Rattle.mdb_msgs.specs.Devices.{device_word}
use Rattle.mdb_bus.specs.declared.scope.Beginning.{Beginning}
use Rattle.mdb_bus.specs.declared.scope.Beginning.TheVariants.{PowerOn, Joined}
use Rattle.mdb_bus.specs.declared.scope.Profile.{Profile}
use Rattle.mdb_bus.specs.declared.scope.Profile.TheVariants.{Base, Extended}
use Rattle.mdb_bus.specs.declared.scope.Scope.{Scope}
use Rattle.mdb_bus.specs.declared.untimely.Untimely.{Untimely}
use Rattle.mdb_bus.specs.Scopes.{profile_of}
use Rattle.mdb_bus.specs.FaultWords.{blame_word, rule_word}
use Rattle.mdb_follow.specs.declared.account.Account.{Account}
use Rattle.mdb_follow.specs.declared.account_name.AccountName.{AccountName}
use Rattle.mdb_follow.specs.declared.account_name.TheConstants.AccountName.{ALL}
use Rattle.mdb_follow.specs.declared.goal.AccountSide.{AccountSide}
use Rattle.mdb_follow.specs.declared.goal.AccountSide.TheVariants as sides
use Rattle.mdb_follow.specs.declared.offence.Offence.{Offence}
use Rattle.mdb_follow.specs.declared.range.Range.{Range}
use Rattle.mdb_follow.specs.declared.report.Report.{Report}
use Rattle.mdb_follow.specs.declared.report.TheConstants.Report.{DEVICES}
use Rattle.mdb_msgs.specs.Devices.{same_device}
use Rattle.mdb_follow.specs.Ends.{side_range}
use Rattle.mdb_follow.specs.Report.{device_decimals, device_silences, device_unvalued}
use Rattle.mdb_follow.specs.AccountNames.{account_device, account_in, account_word}
use Rattle.mdb_text.specs.declared.outcome.Outcome.{Outcome}
use Rattle.mdb_text.specs.declared.outcome.Outcome.TheVariants.{Yes, No}
use Rattle.mdb_text.specs.Known.{known_devices}

-- members and one more, at the place of its name
abbrev pub with_member : Members → List ℕ × Data → Members
with_member others (name, value) = put name value others

-- the members of an object, each with its name, in the order of their names
abbrev pub members : List (List ℕ × Data) → Members
members = fold with_member no_members

-- the least and the greatest of a sum, in the smallest unit of its device
abbrev pub range_data : Range → Data
range_data range =
    object (members (
    (codes "greatest", number (of_integer range.greatest))
    ∷ (codes "least", number (of_integer range.least)) ∷ []
    ))

-- what an account comes to on a side
abbrev pub side_data : Account → AccountSide → Data
side_data account side = range_data (side_range side account)

-- what an account comes to on each side
abbrev pub account_data : Account → Data
account_data account =
    object (members (
    (codes "controller", side_data account sides.Controller)
    ∷ (codes "device", side_data account sides.Device)
    ∷ (codes "difference", side_data account sides.Difference) ∷ []
    ))

-- an account by its word, of a list in the order of a report
abbrev pub account_member : List Account → AccountName → List ℕ × Data
account_member accounts name = (account_word name, account_data (account_in name accounts))

-- whether a device keeps an account
abbrev pub keeps : Device → AccountName → Bool
keeps device name = same_device (account_device name) device

-- the accounts that a device keeps
abbrev pub accounts_data : List Account → Device → Data
accounts_data accounts device =
    object (members (map (account_member accounts) (filter (keeps device) ALL)))

-- how many decimal places a device told of; null where it told of none
abbrev pub places_data : Option ℕ → Data
places_data (Some places) = number (unsigned places)
places_data None = null

-- the devices of whose set-up something is known from elsewhere
abbrev pub known_in : Beginning → DeviceSet
known_in (PowerOn profile) = NONE
known_in (Joined setups profile) = known_devices setups

-- a device: its accounts, the decimal places of their sums, whether something of its set-up is
-- known from elsewhere, how many silences it had, how many of its amounts have no value, and
-- whether it is left out
abbrev pub device_data : Scope → Report → Device → Data
device_data scope report device =
    object (members (
    (codes "accounts", accounts_data report.accounts device)
    ∷ (codes "decimals", places_data (device_decimals device report))
    ∷ (codes "setup", boolean (has (known_in scope.begins) device))
    ∷ (codes "silences", number (unsigned (device_silences device report)))
    ∷ (codes "unvalued", number (unsigned (device_unvalued device report)))
    ∷ (codes "without", boolean (has scope.without device)) ∷ []
    ))

-- a device by its word
abbrev pub device_member : Scope → Report → Device → List ℕ × Data
device_member scope report device = (device_word device, device_data scope report device)

-- all devices
abbrev pub devices_data : Scope → Report → Data
devices_data scope report = object (members (map (device_member scope report) DEVICES))

-- whether a recording begins in mid-session
abbrev pub is_joined : Beginning → Bool
is_joined (PowerOn profile) = false
is_joined (Joined setups profile) = true

-- how many rows of each sender came out of their time; null where they aren't counted
abbrev pub counts_data : Untimely → Data
counts_data counts =
    object (members (
    (codes "bill", number (unsigned counts.bill))
    ∷ (codes "cashless", number (unsigned counts.cashless))
    ∷ (codes "cashless-2", number (unsigned counts.cashless2))
    ∷ (codes "changer", number (unsigned counts.changer))
    ∷ (codes "controller", number (unsigned counts.controller)) ∷ []
    ))

abbrev pub untimely_data : Option Untimely → Data
untimely_data (Some counts) = counts_data counts
untimely_data None = null

-- the version of the form, and what a yes has of the profile: nothing by the base profile
abbrev pub version_of : Profile → ℕ
version_of Base = 1
version_of Extended = 3

abbrev pub profile_members : Profile → Report → List (List ℕ × Data)
profile_members Base report = []
profile_members Extended report =
    (codes "extended", boolean true) ∷ (codes "untimely", untimely_data report.untimely) ∷ []

-- a yes by a profile
abbrev pub yes_by : Profile → Scope → Report → Data
yes_by profile scope report =
    object (members (profile_members profile report ++
    (codes "devices", devices_data scope report)
    ∷ (codes "joined", boolean (is_joined scope.begins))
    ∷ (codes "rows", number (unsigned report.rows))
    ∷ (codes "verdict", string (codes "yes"))
    ∷ (codes "version", number (unsigned (version_of profile))) ∷ []
    ))

-- a yes
abbrev pub yes_data : Scope → Report → Data
yes_data scope report = yes_by (profile_of scope.begins) scope report

-- a no: the row and why
abbrev pub offence_data : Profile → Offence → Data
offence_data profile offence =
    object (members (
    (codes "blame", string (blame_word offence.blame))
    ∷ (codes "row", number (unsigned offence.row))
    ∷ (codes "rule", string (rule_word offence.rule))
    ∷ (codes "verdict", string (codes "no"))
    ∷ (codes "version", number (unsigned (version_of profile))) ∷ []
    ))

-- the answer to a recording that is taken so
abbrev pub outcome_data : Scope → Outcome → Data
outcome_data scope (Yes report) = yes_data scope report
outcome_data scope (No offence) = offence_data (profile_of scope.begins) offence
