-- How the survey of a text comes about, row by row. This file serves private functions and proofs:
-- no public clause cites it.
use Rattle.std.specs.Prelude.{◌≡◌, ◌≢◌, ◌+◌, ◌<◌, ◌≤◌, ℕ, Bool, true, false, List, [], ◌++◌, length}
use Rattle.mdb_words.specs.declared.event.Event.{Event}
use Rattle.mdb_bus.specs.declared.scope.Scope.{Scope}
use Rattle.mdb_follow.specs.declared.follower.TheConstants.{ROWS_MAX}
use Rattle.mdb_surveyor.specs.declared.stretch.Ended.{Ended}
use Rattle.mdb_surveyor.specs.declared.stretch.Stretch.{Stretch}
use Rattle.mdb_surveyor.specs.declared.summary.Summary.{Summary}
use Rattle.mdb_surveyor.specs.declared.surveyor.Surveyor.{Surveyor}
use Rattle.mdb_surveyor.specs.Surveyor.{StandsFor, rows_of}
use Rattle.mdb_surveyor.specs.SurveyText.{stretch_text, summary_text}
use Rattle.mdb_page.specs.Answers.{number_of}
use Rattle.mdb_page.specs.Lines.{HasRead, IsNoRow, IsUnread}
use Rattle.mdb_page.specs.Surveys.{AreListed, HasLine, HasNoRoom}
use Rattle.mdb_page.specs.declared.faults.FaultListing.{FaultListing}
use Rattle.mdb_page.specs.declared.faults.PageFault.{PageFault}
use Rattle.mdb_page.specs.declared.lines.LineFault.TheVariants.{BadRow, Unread}
use Rattle.mdb_page.specs.declared.sheet.PageLines.{PageLines}
use Rattle.mdb_page.specs.declared.survey.Stop.{Stop}
use Rattle.mdb_page.specs.declared.survey.Stop.TheVariants.{Text, Line, TooLong, NoRoom}

-- Later faults of a listing that is full, or not: there is none before one has no room.
abbrev pub AreLater : Bool → ℕ → List Ended → List Ended → Type 0
AreLater true room later shown = HasNoRoom room later shown
AreLater false room later shown = later ≡ []

-- A listing has passed over the first faults of these lines, and listed others.
pub record HasListed (body : List ℕ) (skip : ℕ) (ended : List Ended) (listing : FaultListing)
    (faults : List PageFault) (lines : PageLines) : Type 0 where
  pub later : List Ended
  pub shown : List Ended
  pub passed : List Ended
  pub parts : ended ≡ later ++ (shown ++ passed)
  pub left : length passed + listing.skip ≡ skip
  pub none : listing.skip ≢ 0 → (later ≡ []) × (shown ≡ [])
  pub number : listing.listed ≡ length shown
  pub few : length shown ≤ length faults
  pub rest : AreLater listing.is_full (length faults) later shown
  pub listed : AreListed listing.bytes body shown faults lines

-- The first lines of a text are rows, for which a surveyor stands, and their faults are listed.
pub record HasSurveyed (scope : Scope) (text rest : List ℕ) (skip : ℕ) (surveyor : Surveyor)
    (listing : FaultListing) (faults : List PageFault) (lines : PageLines) : Type 0 where
  pub rows : List Event
  pub read : HasRead text rows rest
  pub ended : List Ended
  pub stands : StandsFor surveyor scope rows ended
  pub counted : rows_of surveyor ≡ length rows
  pub listed : HasListed text skip ended listing faults lines

-- what is known of the text that is left, and of the number of rows before it, where a survey ends
abbrev pub StopsFor : Stop → List ℕ → ℕ → Type 0
StopsFor Text rest count = (rest ≡ []) × (count ≤ ROWS_MAX)
StopsFor (Line (BadRow why)) rest count = IsNoRow rest why × (count < ROWS_MAX)
StopsFor (Line Unread) rest count =
    ((bare : List ℕ) × HasLine rest bare × IsUnread bare) × (count < ROWS_MAX)
StopsFor TooLong rest count = ((bare : List ℕ) × HasLine rest bare) × (count ≡ ROWS_MAX)
StopsFor NoRoom rest count = count ≤ ROWS_MAX

-- The number of an answer where all was read, and its text.
pub record EndsWhole (last : Stretch) (summary : Summary) (text : List ℕ) (number : ℕ)
    : Type 0 where
  pub is : text ≡ stretch_text last ++ summary_text summary
  pub faultless : summary.faults.all ≡ 0 → number ≡ 0
  pub faulty : summary.faults.all ≢ 0 → number ≡ 1

-- what is told and answered where a survey ends: the number of rows, the row and the fault that are
-- told, the text of the answer and its number
abbrev pub EndsWith : Stop → Stretch → Summary → ℕ → ℕ → ℕ → List ℕ → ℕ → Type 0
EndsWith Text last summary count row fault text number =
    EndsWhole last summary text number × (row ≡ count)
EndsWith (Line (BadRow why)) last summary count row fault text number =
    (text ≡ stretch_text last) × (row ≡ count + 1) × (fault ≡ number_of why) × (number ≡ 2)
EndsWith (Line Unread) last summary count row fault text number =
    (text ≡ stretch_text last) × (row ≡ count + 1) × (number ≡ 4)
EndsWith TooLong last summary count row fault text number =
    (text ≡ stretch_text last) × (row ≡ count + 1) × (number ≡ 3)
EndsWith NoRoom last summary count row fault text number = ⊥
