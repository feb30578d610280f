-- What the check of a text answers.
use Rattle.std.specs.Prelude.{◌≡◌, ℕ, List, [], ◌+◌, length, take}
use Rattle.mdb_words.specs.declared.event.Event.{Event}
use Rattle.mdb_words.specs.declared.row.RowFault.{RowFault}
use Rattle.mdb_words.specs.declared.row.RowFault.TheVariants as faults
use Rattle.mdb_bus.specs.declared.scope.Scope.{Scope}
use Rattle.mdb_follow.specs.declared.report.Report.{Report}
use Rattle.mdb_follow.specs.declared.offence.Offence.{Offence}
use Rattle.mdb_follow.specs.Offences.{IsOffence}
use Rattle.mdb_follow.specs.Report.{IsReport}
use Rattle.mdb_follow.specs.Runs.{IsReached}
use Rattle.mdb_text.specs.declared.outcome.Outcome.TheVariants.{No, Yes}
use Rattle.mdb_text.specs.Text.{report_text}
use Rattle.mdb_page.specs.Lines.{HasRead, IsNextRow, IsNoRow, IsUnmarked}
use Rattle.mdb_page.specs.Replays.{IsPlainOffence, IsPlainReport}
use Rattle.mdb_page.specs.declared.answer.PageTold.{PageTold}
use Rattle.mdb_page.specs.declared.sheet.PageText.{PageText}

-- the bytes of an answer's text
abbrev pub written : PageText → List ℕ
written answer = take answer.count answer.bytes

-- All lines of a text are rows, and the answer is the text of what there is to report on these,
-- taken in a scope. It is told how many rows and bytes there are.
pub record TellsReport (Reports : Scope → List Event → Report → Type 0) (scope : Scope)
    (text : List ℕ) (told : PageTold) (answer : PageText) : Type 0 where
  pub lines : List ℕ
  pub unmarked : IsUnmarked text lines
  pub rows : List Event
  pub read : HasRead lines rows []
  pub report : Report
  pub is : Reports scope rows report
  pub says : written answer ≡ report_text scope (Yes report)
  pub row : told.row ≡ length rows
  pub offset : told.offset ≡ length text

-- The first lines of a text are rows, the next line tells the first row that is refused, and the
-- answer is the text that says so. It is told which row that is, and how many bytes stand before
-- its line.
pub record TellsOffence (Refuses : Scope → List Event → Event → Offence → Type 0) (scope : Scope)
    (text : List ℕ) (told : PageTold) (answer : PageText) : Type 0 where
  pub lines : List ℕ
  pub unmarked : IsUnmarked text lines
  pub rows : List Event
  pub rest : List ℕ
  pub read : HasRead lines rows rest
  pub event : Event
  pub next : IsNextRow rest event
  pub offence : Offence
  pub is : Refuses scope rows event offence
  pub says : written answer ≡ report_text scope (No offence)
  pub row : told.row ≡ offence.row
  pub offset : told.offset + length rest ≡ length text

-- the answers of a check: all runs together
abbrev pub IsYes : Scope → List ℕ → PageTold → PageText → Type 0
IsYes scope text told answer = TellsReport IsReport scope text told answer

abbrev pub IsNo : Scope → List ℕ → PageTold → PageText → Type 0
IsNo scope text told answer = TellsOffence IsOffence scope text told answer

-- the answers of a replay without marks: the run in which no acknowledgement was lost, and no
-- device restarted unseen (this profile)
abbrev pub IsReplayedYes : Scope → List ℕ → PageTold → PageText → Type 0
IsReplayedYes scope text told answer = TellsReport IsPlainReport scope text told answer

abbrev pub IsReplayedNo : Scope → List ℕ → PageTold → PageText → Type 0
IsReplayedNo scope text told answer = TellsOffence IsPlainOffence scope text told answer

-- the number of a fault of a row
abbrev pub number_of : RowFault → ℕ
number_of faults.FieldCount = 0
number_of faults.BadTime = 1
number_of faults.BadLine = 2
number_of faults.BadValue = 3

-- The first lines of a text are these rows, and the next line is none. It is told why, which row it
-- would be, and how many bytes stand before it.
pub record TellsBadRow (rows : List Event) (text : List ℕ) (told : PageTold) : Type 0 where
  pub lines : List ℕ
  pub unmarked : IsUnmarked text lines
  pub rest : List ℕ
  pub read : HasRead lines rows rest
  pub why : RowFault
  pub is : IsNoRow rest why
  pub fault : told.fault ≡ number_of why
  pub row : told.row ≡ length rows + 1
  pub offset : told.offset + length rest ≡ length text

-- The rows before the line that is none can be in a scope.
pub record IsBadRow (scope : Scope) (text : List ℕ) (told : PageTold) : Type 0 where
  pub rows : List Event
  pub reached : IsReached scope rows
  pub told_row : TellsBadRow rows text told
