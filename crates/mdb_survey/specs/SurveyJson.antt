-- The lines of a survey, as JSON: each is an object (this profile).
use Rattle.std.specs.Prelude.{◌==◌, ℕ, List, [], ◌∷◌, ◌++◌, codes, if◌then◌else◌, map}
use Rattle.serde_json.specs.Data.{Data, null, boolean, number, string, object, unsigned}
use Rattle.serde_json.specs.Written.{compact_text}
use Rattle.mdb_msgs.specs.declared.command.Device.{Device}
use Rattle.mdb_msgs.specs.DeviceSets.{has}
use Rattle.mdb_msgs.specs.Devices.{device_word}
use Rattle.mdb_bus.specs.declared.scope.Profile.{Profile}
use Rattle.mdb_bus.specs.declared.scope.Profile.TheVariants.{Base, Extended}
use Rattle.mdb_bus.specs.FaultWords.{blame_word, rule_word}
use Rattle.mdb_bus.specs.Scopes.{profile_of}
use Rattle.mdb_follow.specs.declared.offence.Offence.{Offence}
use Rattle.mdb_follow.specs.declared.report.TheConstants.Report.{DEVICES}
use Rattle.mdb_json.specs.Reports.{accounts_data, members, untimely_data, version_of, yes_data}
use Rattle.mdb_surveyor.specs.declared.counts.FaultCounts.{FaultCounts}
use Rattle.mdb_surveyor.specs.declared.stretch.Stretch.{Stretch}
use Rattle.mdb_surveyor.specs.Totals.{total_silences, total_unvalued}
use Rattle.mdb_surveyor.specs.declared.summary.Summary.{Summary}
use Rattle.mdb_surveyor.specs.Lines.{LineForm}
use Rattle.mdb_text.specs.Text.{line}

-- A stretch that has rows: its first row and its last, the report on them, and its number. The
-- report is the object of a yes of `check` with rows that are taken so.
abbrev pub stretch_data : Stretch → Data
stretch_data stretch =
    object (members (
    (codes "first", number (unsigned stretch.first))
    ∷ (codes "last", number (unsigned stretch.last))
    ∷ (codes "report", yes_data stretch.scope stretch.report)
    ∷ (codes "stretch", number (unsigned stretch.number))
    ∷ (codes "version", number (unsigned (version_of (profile_of stretch.scope.begins)))) ∷ []
    ))

-- a stretch without a row has no line
abbrev pub stretch_json : Stretch → List ℕ
stretch_json stretch =
    if stretch.report.rows == 0 then [] else line (compact_text (stretch_data stretch))

-- a fault: who is to blame, the row and the rule
abbrev pub offence_data : Offence → Data
offence_data fault =
    object (members (
    (codes "blame", string (blame_word fault.blame))
    ∷ (codes "row", number (unsigned fault.row))
    ∷ (codes "rule", string (rule_word fault.rule)) ∷ []
    ))

abbrev pub fault_data : Profile → Offence → Data
fault_data profile fault =
    object (members (
    (codes "fault", offence_data fault)
    ∷ (codes "version", number (unsigned (version_of profile))) ∷ []
    ))

-- what all stretches have of a device: its accounts, how many silences it had, how many of its
-- amounts have no value, and whether it is left out at the end
abbrev pub device_total : Summary → Device → Data
device_total summary device =
    object (members (
    (codes "accounts", accounts_data summary.totals.accounts device)
    ∷ (codes "silences", number (unsigned (total_silences device summary.totals)))
    ∷ (codes "unvalued", number (unsigned (total_unvalued device summary.totals)))
    ∷ (codes "without", boolean (has summary.without device)) ∷ []
    ))

-- the same by the word of the device
abbrev pub device_member : Summary → Device → List ℕ × Data
device_member summary device = (device_word device, device_total summary device)

-- what they have of all devices
abbrev pub devices_total : Summary → Data
devices_total summary = object (members (map (device_member summary) DEVICES))

-- what the totals have of the profile: nothing by the base profile
abbrev pub profile_totals : Profile → Summary → List (List ℕ × Data)
profile_totals Base summary = []
profile_totals Extended summary =
    (codes "untimely", untimely_data summary.totals.untimely) ∷ []

-- the totals by a profile; null where no stretch has a row
abbrev pub some_total : Profile → Summary → Data
some_total profile summary =
    object (members (profile_totals profile summary ++
    (codes "devices", devices_total summary) ∷ []))

abbrev pub total_data : Profile → Summary → Data
total_data profile summary =
    if summary.totals.rows == 0 then null else some_total profile summary

-- how many faults there are: all, those that count for each, and those that count for nobody
abbrev pub faults_data : FaultCounts → Data
faults_data faults =
    object (members (
    (codes "all", number (unsigned faults.all))
    ∷ (codes "bill", number (unsigned faults.bill))
    ∷ (codes "cashless", number (unsigned faults.cashless))
    ∷ (codes "cashless-2", number (unsigned faults.cashless_2))
    ∷ (codes "changer", number (unsigned faults.changer))
    ∷ (codes "controller", number (unsigned faults.controller))
    ∷ (codes "other", number (unsigned faults.other))
    ∷ (codes "profile", number (unsigned faults.profile)) ∷ []
    ))

-- the whole: the faults and the totals
abbrev pub summary_data : Profile → Summary → Data
summary_data profile summary =
    object (members (
    (codes "faults", faults_data summary.faults)
    ∷ (codes "total", total_data profile summary)
    ∷ (codes "version", number (unsigned (version_of profile))) ∷ []
    ))

-- the lines of `survey` as JSON, by a profile
abbrev pub json_lines : Profile → LineForm
json_lines profile = record {
  stretch = stretch_json;
  fault = λ fault. line (compact_text (fault_data profile fault));
  summary = λ summary. line (compact_text (summary_data profile summary));
}
