-- How an explanation comes about: rows that are kept, and the lines of marks and rows. This file
-- serves private functions.
use Rattle.std.specs.Prelude.{◌≡◌, ℕ, List, ⊤, Option, Result, Ok, Err}
use Rattle.std.specs.Io.KnownBytes.{Appends}
use Rattle.std.specs.List.{flat_map}
use Rattle.mdb_words.specs.declared.event.Event.{Event}
use Rattle.mdb_words.specs.RowsWritten.{row_fields}
use Rattle.mdb_bus.specs.declared.scope.Scope.{Scope}
use Rattle.mdb_follow.specs.declared.goal.Goal.{Goal}
use Rattle.mdb_run_search.specs.declared.mark.Mark.{Mark}
use Rattle.mdb_follow.specs.declared.offence.Offence.{Offence}
use Rattle.mdb_follow.specs.declared.report.Report.{Report}
use Rattle.mdb_run_search.specs.Goals.{Explains}
use Rattle.mdb_follow.specs.Offences.{IsOffence}
use Rattle.mdb_explain.specs.declared.keeping.Keeping.{Keeping}
use Rattle.mdb_text.specs.declared.outcome.Outcome.{Outcome}
use Rattle.mdb_text.specs.declared.outcome.Outcome.TheVariants.{Yes, No}
use Rattle.mdb_verdict.specs.declared.fault.RunFault.{RunFault}
use Rattle.mdb_verdict.specs.declared.fault.RunFault.TheVariants.{BadRow, TooLong, Read, Write, Memory}
use Rattle.mdb_explain.specs.Explain.{explanation_text, mark_fields, record_line}
use Rattle.mdb_text.specs.Text.{report_text}
use Rattle.mdb_writing.specs.Written.{HasTaken}
use Rattle.mdb_verdict.specs.Ending.{HasFollowedRows}

-- These rows were taken, and no others, and they are kept.
pub record HasKept (scope : Scope) (keeping : Keeping) (rows : List Event) : Type 0 where
  pub followed : HasFollowedRows scope keeping.follower rows
  pub kept : keeping.rows.items ≡ rows

-- the row after these was stopped at: it cannot be, or can't be kept
abbrev pub StopsKeeping : Scope → List Event → Event → Result Offence RunFault → Type 0
StopsKeeping scope rows row (Ok offence) = IsOffence scope rows row offence
StopsKeeping scope rows row (Err (BadRow number fault)) = ⊥
StopsKeeping scope rows row (Err TooLong) = ⊥
StopsKeeping scope rows row (Err Read) = ⊥
StopsKeeping scope rows row (Err Write) = ⊥
StopsKeeping scope rows row (Err Memory) = ⊤

-- the lines of a mark and of a row, and those of all
abbrev pub mark_line : ℕ × Mark → List ℕ
mark_line mark = record_line (mark_fields mark)

abbrev pub row_line : Event → List ℕ
row_line row = record_line (row_fields row)

abbrev pub marks_text : List (ℕ × Mark) → List ℕ
marks_text marks = flat_map mark_line marks

abbrev pub rows_text : List Event → List ℕ
rows_text rows = flat_map row_line rows

-- A text of an outcome was written, which is answered, or it was not.
abbrev pub IsTold : {W : Type 0} → (W → Option (List ℕ)) → W → W
    → (Outcome → List ℕ → Type 0) → Result Outcome RunFault → Type 0
IsTold contents before after IsText (Ok outcome) = (text : List ℕ) × IsText outcome text
    × Appends (contents before) (contents after) text
IsTold contents before after IsText (Err (BadRow row fault)) = ⊥
IsTold contents before after IsText (Err TooLong) = ⊥
IsTold contents before after IsText (Err Read) = ⊥
IsTold contents before after IsText (Err Write) = (outcome : Outcome) × (text : List ℕ)
    × IsText outcome text × HasTaken (contents before) (contents after) text
IsTold contents before after IsText (Err Memory) = after ≡ before

-- the text of a no
abbrev pub IsNoText : Scope → Offence → Outcome → List ℕ → Type 0
IsNoText scope offence outcome text =
    (outcome ≡ No offence) × (text ≡ report_text scope (No offence))

-- the text of rows that were kept, which have a report: that of marks that explain a goal, and of
-- the rows
abbrev pub IsRowsText : Scope → List Event → Goal → Report → Outcome → List ℕ → Type 0
IsRowsText scope rows goal report outcome text =
    (outcome ≡ Yes report) × (marks : List (ℕ × Mark)) × Explains scope rows goal marks
    × (text ≡ explanation_text marks rows)
