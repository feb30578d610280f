-- What `survey` answers to the records of a text, and what it writes of them, in whatever form.
use Rattle.std.specs.Prelude.{◌≡◌, ◌≤◌, ℕ, List, ◌++◌, length, Option, Result, Ok, Err}
use Rattle.mdb_words.specs.declared.event.Event.{Event}
use Rattle.mdb_words.specs.Row.{IsRow}
use Rattle.mdb_words.specs.Refusals.{IsRefusal}
use Rattle.mdb_bus.specs.declared.scope.Profile.{Profile}
use Rattle.mdb_bus.specs.declared.scope.Scope.{Scope}
use Rattle.mdb_follow.specs.declared.follower.TheConstants.{ROWS_MAX}
use Rattle.mdb_surveyor.specs.declared.stretch.Ended.{Ended}
use Rattle.mdb_surveyor.specs.declared.stretch.Stretch.{Stretch}
use Rattle.mdb_surveyor.specs.Stretches.{IsSurvey}
use Rattle.mdb_surveyor.specs.Summaries.{summary_of}
use Rattle.mdb_verdict.specs.declared.fault.RunFault.{RunFault}
use Rattle.mdb_verdict.specs.declared.fault.RunFault.TheVariants.{Read, Memory}
use Rattle.mdb_text.specs.declared.form.Form.{Form}
use Rattle.mdb_text.specs.declared.form.Form.TheVariants.{Text, Json}
use Rattle.mdb_verdict.specs.Unanswered.{IsTakenInPart, IsUnanswered}
use Rattle.mdb_verdict.specs.Verdict.{IsTakenWhole}
use Rattle.mdb_verdict.specs.Telling.{Tells}
use Rattle.mdb_writing.specs.Answers as answers
use Rattle.mdb_surveyor.specs.declared.summary.Summary.{Summary}
use Rattle.mdb_surveyor.specs.Lines.{LineForm, lines_of}
use Rattle.mdb_survey.specs.SurveyJson.{json_lines}
use Rattle.mdb_surveyor.specs.SurveyText.{text_lines}

-- These rows have a survey. The text is its lines: those of each fault with the stretch before it,
-- of the last stretch, and of the whole.
pub record HasAllLines (form : LineForm) (scope : Scope) (summary : Summary) (rows : List Event)
    (text : List ℕ) : Type 0 where
  pub ended : List Ended
  pub last : Stretch
  pub survey : IsSurvey scope rows ended last
  pub comes_to : summary ≡ summary_of ended last
  pub lines : text ≡ lines_of form ended ++ form.stretch last ++ form.summary summary

-- The same without those of the whole.
pub record HasLines (form : LineForm) (scope : Scope) (rows : List Event) (text : List ℕ)
    : Type 0 where
  pub ended : List Ended
  pub last : Stretch
  pub survey : IsSurvey scope rows ended last
  pub lines : text ≡ lines_of form ended ++ form.stretch last

-- The same without those of the last stretch.
pub record HasFaultLines (form : LineForm) (scope : Scope) (rows : List Event) (text : List ℕ)
    : Type 0 where
  pub ended : List Ended
  pub last : Stretch
  pub survey : IsSurvey scope rows ended last
  pub lines : text ≡ lines_of form ended

-- All records are rows, and the text is all lines of their survey.
abbrev pub IsSurveyedWhole : LineForm → Scope → List (List (List ℕ)) → Summary → List ℕ → Type 0
IsSurveyedWhole form scope records summary text =
    IsTakenWhole IsRow (λ rows. HasAllLines form scope summary rows text) ROWS_MAX records

-- The answer to the records of a text, of which so many were read, and the text that is written of
-- them. Where a record can't be read, none that was read before is left out. Memory may be refused
-- after any row. That the writer failed is none of these answers.
abbrev pub IsSurveying : LineForm → Scope → List (List (List ℕ)) → ℕ → Result Summary RunFault
    → List ℕ → Type 0
IsSurveying form scope records read (Ok summary) text =
    IsSurveyedWhole form scope records summary text
IsSurveying form scope records read (Err Read) text =
    IsTakenInPart IsRow (λ rows. (read ≤ length rows) × HasLines form scope rows text) records
IsSurveying form scope records read (Err Memory) text =
    IsTakenInPart IsRow (λ rows. HasFaultLines form scope rows text) records
IsSurveying form scope records read (Err fault) text =
    IsUnanswered IsRow IsRefusal (λ rows. HasLines form scope rows text) ROWS_MAX records fault

-- the same of the bytes that a writer held before and after
abbrev pub SurveysIn : LineForm → Scope → List (List (List ℕ)) → ℕ → Option (List ℕ)
    → Option (List ℕ) → Result Summary RunFault → Type 0
SurveysIn form scope records read = Tells (IsSurveying form scope records read)

-- the writer took a front of a text that goes with some answer to the records
abbrev pub IsCutShort : LineForm → Scope → List (List (List ℕ)) → Option (List ℕ)
    → Option (List ℕ) → Type 0
IsCutShort form scope records before after =
    (read : ℕ) × answers.IsCutShort (IsSurveying form scope records read) before after

-- the lines of a form, of a recording that is followed by a profile
abbrev pub survey_lines_in : Form → Profile → LineForm
survey_lines_in Text profile = text_lines
survey_lines_in Json profile = json_lines profile
