-- The lines of a survey, as text (this profile).
use Rattle.std.specs.Prelude.{◌==◌, ℕ, List, [], ◌++◌, codes, if◌then◌else◌}
use Rattle.std.specs.Fmt.{decimal}
use Rattle.std.specs.List.{flat_map}
use Rattle.mdb_bus.specs.FaultWords.{blame_word, rule_word}
use Rattle.mdb_bus.specs.JoinedScopes.{joined}
use Rattle.mdb_follow.specs.declared.account_name.TheConstants.AccountName.{ALL}
use Rattle.mdb_follow.specs.declared.offence.Offence.{Offence}
use Rattle.mdb_surveyor.specs.declared.counts.FaultCounts.{FaultCounts}
use Rattle.mdb_surveyor.specs.declared.stretch.Stretch.{Stretch}
use Rattle.mdb_surveyor.specs.declared.totals.Totals.{Totals}
use Rattle.mdb_surveyor.specs.Told.{setups_of}
use Rattle.mdb_surveyor.specs.Totals.{total_of}
use Rattle.mdb_surveyor.specs.declared.summary.Summary.{Summary}
use Rattle.mdb_surveyor.specs.Lines.{LineForm}
use Rattle.mdb_text.specs.Text.{account_line, counts_line, devices_text, line, line_of_devices, report_lines, untimely_line}

-- the first line of a stretch: its number, its first row and its last
abbrev pub stretch_line : Stretch → List ℕ
stretch_line stretch =
    line (codes "stretch " ++ decimal stretch.number ++ codes " rows " ++ decimal stretch.first
    ++ codes "-" ++ decimal stretch.last)

-- The lines of a stretch that has rows: after the first those of a yes of `check --joined`, without
-- `verdict` and `rows`.
abbrev pub rows_text : Stretch → List ℕ
rows_text stretch = stretch_line stretch
    ++ report_lines (joined (setups_of stretch.scope.begins) stretch.scope.without) stretch.report

-- a stretch without a row has no line
abbrev pub stretch_text : Stretch → List ℕ
stretch_text stretch = if stretch.report.rows == 0 then [] else rows_text stretch

-- the row of a fault, the rule and who is to blame
abbrev pub fault_line : Offence → List ℕ
fault_line fault =
    line (codes "fault " ++ decimal fault.row ++ codes " " ++ rule_word fault.rule ++ codes " "
    ++ blame_word fault.blame)

-- the line of each account's sums
abbrev pub total_accounts_text : Totals → List ℕ
total_accounts_text totals =
    flat_map (λ name. codes "total " ++ account_line name (total_of name totals)) ALL

-- the sums of each device's silences
abbrev pub total_silences_line : Totals → List ℕ
total_silences_line totals = counts_line (codes "total silences") totals.silences

-- those of the rows out of their time, where they are counted
abbrev pub total_untimely_line : Totals → List ℕ
total_untimely_line totals = untimely_line (codes "total untimely") totals.untimely

-- those of each device's amounts without a value
abbrev pub total_unvalued_line : Totals → List ℕ
total_unvalued_line totals = counts_line (codes "total unvalued") totals.unvalued

-- the totals, and which devices are left out at the end, if any
abbrev pub totals_text : Summary → List ℕ
totals_text summary =
    total_accounts_text summary.totals ++ total_silences_line summary.totals
    ++ total_untimely_line summary.totals ++ total_unvalued_line summary.totals
    ++ line_of_devices (codes "total without") (devices_text summary.without)

-- the number of the faults, of those that count for each, and of those that count for nobody
abbrev pub faults_line : FaultCounts → List ℕ
faults_line faults =
    line (codes "faults " ++ decimal faults.all ++ codes " controller " ++ decimal faults.controller
    ++ codes " changer " ++ decimal faults.changer ++ codes " bill " ++ decimal faults.bill
    ++ codes " cashless " ++ decimal faults.cashless ++ codes " cashless-2 "
    ++ decimal faults.cashless_2 ++ codes " other " ++ decimal faults.other ++ codes " profile "
    ++ decimal faults.profile)

-- the last lines: the totals, where a stretch has a row, and the faults
abbrev pub summary_text : Summary → List ℕ
summary_text summary =
    (if summary.totals.rows == 0 then [] else totals_text summary) ++ faults_line summary.faults

-- the lines of `survey` as text
abbrev pub text_lines : LineForm
text_lines = record { stretch = stretch_text; fault = fault_line; summary = summary_text }
