-- What the program's exit status says of a task.
use Rattle.std.specs.Prelude.{◌≡◌, ◌≢◌, ◌⊎◌, ◌<◌, ◌==◌, ⊤, ℕ, List, if◌then◌else◌}
use Rattle.std.specs.Prelude.{Option, Some, None, Result, Ok, Err, IfSome, length}
use Rattle.std.specs.Io.KnownBytes.{Appends}
use Rattle.csv.specs.Reading.{default_config, records, strip_bom}
use Rattle.mdb_bus.specs.declared.fault.LinkFault.{LinkFault}
use Rattle.mdb_bus.specs.declared.scope.Scope.{Scope}
use Rattle.mdb_bus.specs.Scopes.{from_power_on, profile_of}
use Rattle.mdb_follow.specs.declared.follower.TheConstants.{ROWS_MAX}
use Rattle.mdb_follow.specs.declared.goal.Goal.{Goal}
use Rattle.mdb_follow.specs.declared.offence.Offence.{Offence}
use Rattle.mdb_follow.specs.declared.report.Report.{Report}
use Rattle.mdb_explain.specs.Explain.{IsCutExplanation, IsExplainedIn}
use Rattle.mdb_explain.specs.Replay.{IsReplayAnswer}
use Rattle.mdb_show.specs.Show.{IsCutShortIn, IsShownToFaultIn, IsShownWholeIn, lines_in}
use Rattle.mdb_survey.specs.Survey.{IsCutShort, IsSurveyedWhole, survey_lines_in}
use Rattle.mdb_surveyor.specs.declared.summary.Summary.{Summary}
use Rattle.mdb_text.specs.Text.{report_text}
use Rattle.mdb_text.specs.declared.form.Form.{Form}
use Rattle.mdb_text.specs.declared.outcome.Outcome.{Outcome}
use Rattle.mdb_text.specs.declared.outcome.Outcome.TheVariants.{Yes, No}
use Rattle.mdb_verdict.specs.Answers.{IsCutIn}
use Rattle.mdb_verdict.specs.Forms.{answer_text}
use Rattle.mdb_verdict.specs.Headline.{Headline}
use Rattle.mdb_verdict.specs.Verdict.{IsImpossible, IsPossible}
use Rattle.mdb_check.specs.declared.beside.Beside.{Beside}
use Rattle.mdb_check.specs.Json.{checked_text}
use Rattle.mdb_check.specs.Verdict.{IsAnsweredBeside}
use Rattle.mdb_verdict.specs.declared.fault.RunFault.{RunFault}
use Rattle.mdb_verdict.specs.declared.verdict.TheConstants.{BYTES_MAX}
use Rattle.mdbcheck_run.specs.declared.task.Task.{Task}
use Rattle.mdbcheck_run.specs.declared.task.Task.TheVariants.{Check, Survey, Show, Explain, Replay}

-- What the status of `check` and of `replay` says of the records of a text, and of the bytes that
-- the writer held before and after. `IsAnswer` says which answers the records may have, and `text`
-- what is written of an outcome. At 2 nothing was written, or the writer failed and took a front of
-- what is written of the outcome.
pub record SaysAnswered {Fault : Type 0} (IsAnswer : Result Outcome Fault → Type 0)
    (text : Outcome → List ℕ) (before after : Option (List ℕ)) (status : ℕ) : Type 0 where
  pub possible : status ≡ 0 → (report : Report) × IsAnswer (Ok (Yes report))
      × Appends before after (text (Yes report))
  pub impossible : status ≡ 1 → (offence : Offence) × IsAnswer (Ok (No offence))
      × Appends before after (text (No offence))
  pub unanswered : status ≡ 2 → (after ≡ before) ⊎ IsCutIn IsAnswer text before after

-- the headline of the records of a text says this of an answer
abbrev pub HasHeadline : Scope → List (List (List ℕ)) → Result Outcome RunFault → Type 0
HasHeadline scope records (Ok outcome) = Headline scope ROWS_MAX records outcome
HasHeadline scope records (Err fault) = ⊤

-- The same of `survey`. At 0 and at 1 all records are rows, and the lines of their survey were
-- written: at 0 it has no fault, and at 1 one or more. At 2 a front of a text was written that the
-- records are surveyed with, whatever the answer is.
pub record SaysSurveyed (scope : Scope) (form : Form) (records : List (List (List ℕ)))
    (before after : Option (List ℕ)) (status : ℕ) : Type 0 where
  pub faultless : status ≡ 0 → (summary : Summary) × (text : List ℕ)
      × IsSurveyedWhole (survey_lines_in form (profile_of scope.begins)) scope records summary text
      × (summary.faults.all ≡ 0) × Appends before after text
  pub faulty : status ≡ 1 → (summary : Summary) × (text : List ℕ)
      × IsSurveyedWhole (survey_lines_in form (profile_of scope.begins)) scope records summary text
      × (0 < summary.faults.all) × Appends before after text
  pub unanswered : status ≡ 2
      → IsCutShort (survey_lines_in form (profile_of scope.begins)) scope records before after

-- The same of `show`. At 2 a front of a text was written that the records are shown with: its lines
-- up to the fault, or fewer, where the writer failed.
pub record SaysShown (scope : Scope) (form : Form) (records : List (List (List ℕ)))
    (before after : Option (List ℕ)) (status : ℕ) : Type 0 where
  pub whole : status ≡ 0 → (text : List ℕ) × IsShownWholeIn (lines_in form) scope records text
      × Appends before after text
  pub to_fault : status ≡ 1 → (fault : LinkFault) × (text : List ℕ)
      × IsShownToFaultIn (lines_in form) scope records fault text × Appends before after text
  pub unanswered : status ≡ 2 → IsCutShortIn (lines_in form) scope records before after

-- What the statuses of `explain` say, as those of `check` do: at 0 an explanation was written.
pub record SaysExplained (scope : Scope) (goal : Goal) (records : List (List (List ℕ)))
    (before after : Option (List ℕ)) (status : ℕ) : Type 0 where
  pub possible : status ≡ 0 → (report : Report) × IsPossible scope ROWS_MAX records report
      × IsExplainedIn scope goal records before after (Yes report)
  pub impossible : status ≡ 1 → (offence : Offence) × IsImpossible scope ROWS_MAX records offence
      × Appends before after (report_text scope (No offence))
  pub unanswered : status ≡ 2
      → (after ≡ before) ⊎ IsCutExplanation scope ROWS_MAX goal records before after

-- What the status of the program says of a task, of the records of a text, and of the bytes that
-- the writer held before and after.
abbrev pub Says : Task → List (List (List ℕ)) → Option (List ℕ) → Option (List ℕ) → ℕ → Type 0
Says (Check scope readers form) records before after status =
    (beside : Beside)
    × SaysAnswered (IsAnsweredBeside scope readers ROWS_MAX records beside)
    (checked_text form scope beside) before after status
Says (Survey scope form) records before after status =
    SaysSurveyed scope form records before after status
Says (Show scope form) records before after status =
    SaysShown scope form records before after status
Says (Explain goal profile without) records before after status =
    SaysExplained (from_power_on profile without) goal records before after status
Says (Replay profile without form) records before after status =
    SaysAnswered (IsReplayAnswer (from_power_on profile without) ROWS_MAX records)
    (answer_text form (from_power_on profile without)) before after status

-- The rest serves private functions: what a command says that reads a recording, by what each
-- status says of the records of a text.
pub record SaysOf (Says : List (List (List ℕ)) → ℕ → Type 0) (remaining : Option (List ℕ))
    (status : ℕ) : Type 0 where
  pub says : IfSome remaining (λ bytes. Says (records default_config (strip_bom bytes)) status)
  pub whole : IfSome remaining (λ bytes. BYTES_MAX < length bytes → status ≢ 0)

-- the status for an answer of `check`, `explain` or `replay`, of `survey`, and of `show`
abbrev pub status_of : {Fault : Type 0} → Result Outcome Fault → ℕ
status_of (Ok (Yes report)) = 0
status_of (Ok (No offence)) = 1
status_of (Err fault) = 2

abbrev pub survey_status_of : Result Summary RunFault → ℕ
survey_status_of (Ok summary) = if summary.faults.all == 0 then 0 else 1
survey_status_of (Err fault) = 2

abbrev pub show_status_of : Result (Option LinkFault) RunFault → ℕ
show_status_of (Ok None) = 0
show_status_of (Ok (Some fault)) = 1
show_status_of (Err fault) = 2
