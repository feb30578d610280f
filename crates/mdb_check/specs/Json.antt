-- A no of `check` as JSON, with what may be said beside it (this profile).
use Rattle.std.specs.Prelude.{ℕ, List, [], ◌∷◌, codes, Option, Some, None}
use Rattle.serde_json.specs.Data.{Data, null, boolean, number, string, object, unsigned}
use Rattle.serde_json.specs.Written.{compact_text}
use Rattle.mdb_msgs.specs.declared.command.Device.{Device}
use Rattle.mdb_msgs.specs.declared.command.Device.TheVariants.{Reader}
use Rattle.mdb_msgs.specs.declared.command.ReaderUnit.{ReaderUnit}
use Rattle.mdb_msgs.specs.Devices.{device_word}
use Rattle.mdb_bus.specs.declared.scope.Profile.{Profile}
use Rattle.mdb_bus.specs.declared.scope.Profile.TheVariants.{Base, Extended}
use Rattle.mdb_bus.specs.declared.scope.Scope.{Scope}
use Rattle.mdb_bus.specs.FaultWords.{blame_word, rule_word}
use Rattle.mdb_bus.specs.Scopes.{profile_of}
use Rattle.mdb_follow.specs.declared.offence.Offence.{Offence}
use Rattle.mdb_json.specs.Json.{json_line}
use Rattle.mdb_json.specs.Reports.{members}
use Rattle.mdb_text.specs.declared.form.Form.{Form}
use Rattle.mdb_text.specs.declared.form.Form.TheVariants.{Text, Json}
use Rattle.mdb_text.specs.declared.outcome.Outcome.{Outcome}
use Rattle.mdb_text.specs.declared.outcome.Outcome.TheVariants.{Yes, No}
use Rattle.mdb_text.specs.Text.{line, report_text}
use Rattle.mdb_check.specs.declared.beside.Beside.{Beside}
use Rattle.mdb_check.specs.declared.beside.Spared.{Spared}

-- a device by its word; null where there is none
abbrev pub word_data : Option Device → Data
word_data (Some device) = string (device_word device)
word_data None = null

-- a reader likewise
abbrev pub reader_data : Option ReaderUnit → Data
reader_data (Some unit) = string (device_word (Reader unit))
reader_data None = null

-- the time of a row, in microseconds, and whether it comes after RET; null where there is none
abbrev pub time_data : Spared → Data
time_data it =
    object (members (
    (codes "after-ret", boolean it.after_ret)
    ∷ (codes "micros", number (unsigned it.micros)) ∷ []
    ))

abbrev pub spared_data : Option Spared → Data
spared_data (Some it) = time_data it
spared_data None = null

-- the version of the form: a yes has another
abbrev pub no_version : Profile → ℕ
no_version Base = 4
no_version Extended = 5

-- a no: the row and why, and what may be said beside it
abbrev pub no_data : Profile → Offence → Beside → Data
no_data profile offence beside =
    object (members (
    (codes "blame", string (blame_word offence.blame))
    ∷ (codes "row", number (unsigned offence.row))
    ∷ (codes "rule", string (rule_word offence.rule))
    ∷ (codes "spared", spared_data beside.spared)
    ∷ (codes "unfollowed", word_data beside.unfollowed)
    ∷ (codes "unjudged", reader_data beside.unjudged)
    ∷ (codes "verdict", string (codes "no"))
    ∷ (codes "version", number (unsigned (no_version profile))) ∷ []
    ))

-- the line of a verdict
abbrev pub checked_line : Scope → Beside → Outcome → List ℕ
checked_line scope beside (Yes report) = json_line scope (Yes report)
checked_line scope beside (No offence) =
    line (compact_text (no_data (profile_of scope.begins) offence beside))

-- what is written of a verdict, and of what may be said beside it, by the form
abbrev pub checked_text : Form → Scope → Beside → Outcome → List ℕ
checked_text Text scope beside = report_text scope
checked_text Json scope beside = checked_line scope beside
