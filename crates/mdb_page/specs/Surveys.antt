-- What the survey of a text answers, tells and lists.
use Rattle.std.specs.Prelude.{◌≡◌, ◌≢◌, ◌⊎◌, ◌+◌, ◌<◌, ◌≤◌, ℕ, List, [], ◌∷◌, ◌++◌, All, length, map, min, take}
use Rattle.mdb_words.specs.declared.event.Event.{Event}
use Rattle.mdb_words.specs.declared.row.RowFault.{RowFault}
use Rattle.mdb_bus.specs.declared.scope.Scope.{Scope}
use Rattle.mdb_follow.specs.declared.follower.TheConstants.{ROWS_MAX}
use Rattle.mdb_surveyor.specs.declared.stretch.Ended.{Ended}
use Rattle.mdb_surveyor.specs.declared.stretch.Stretch.{Stretch}
use Rattle.mdb_surveyor.specs.Stretches.{IsSurvey}
use Rattle.mdb_surveyor.specs.Summaries.{summary_of}
use Rattle.mdb_surveyor.specs.Lines.{lines_of}
use Rattle.mdb_surveyor.specs.SurveyText.{stretch_text, summary_text, text_lines}
use Rattle.mdb_page.specs.Answers.{number_of, written}
use Rattle.mdb_page.specs.Lines.{HasRead, IsLine, IsNextRow, IsNoRow, IsUnmarked, IsUnread}
use Rattle.mdb_page.specs.declared.answer.PageTold.{PageTold}
use Rattle.mdb_page.specs.declared.faults.PageFault.{PageFault}
use Rattle.mdb_page.specs.declared.sheet.PageLines.{PageLines}
use Rattle.mdb_page.specs.declared.sheet.PageText.{PageText}
use Rattle.mdb_page.specs.declared.sheet.TheConstants.{LINES_ROOM}

-- the bytes of lines
abbrev pub written_lines : PageLines → List ℕ
written_lines lines = take lines.count lines.bytes

-- the rows of faults, the oldest first
abbrev pub rows_of_faults : List Ended → List ℕ
rows_of_faults [] = []
rows_of_faults (ended ∷ earlier) = rows_of_faults earlier ++ ended.fault.row ∷ []

-- The first of later faults has no room after those that are shown: these have as many entries as
-- there may be, or their lines and its own are more than there may be.
pub record HasNoRoom (room : ℕ) (later shown : List Ended) : Type 0 where
  pub newer : List Ended
  pub next : Ended
  pub are : later ≡ newer ++ next ∷ []
  pub full : (length shown ≡ room)
      ⊎ (LINES_ROOM < length (lines_of text_lines (next ∷ shown)))

-- Of all faults the first are passed over, so many as there are of them. After these come those
-- that are shown, and after these come later ones, if the first of them has no room.
pub record AreShown (skip room : ℕ) (ended shown : List Ended) : Type 0 where
  pub later : List Ended
  pub passed : List Ended
  pub parts : ended ≡ later ++ (shown ++ passed)
  pub count : length passed ≡ min skip (length ended)
  pub rest : (later ≡ []) ⊎ HasNoRoom room later shown

-- So many bytes of a text stand before the line of a row, which has this number. `size` is the
-- number of all bytes, and `body` is the text without its mark.
pub record IsPlace (size : ℕ) (body : List ℕ) (row offset : ℕ) : Type 0 where
  pub rows : List Event
  pub rest : List ℕ
  pub read : HasRead body rows rest
  pub event : Event
  pub next : IsNextRow rest event
  pub number : row ≡ length rows + 1
  pub before : offset + length rest ≡ size

-- Faults are listed, each with the stretch that it ended: an entry has the row of each and the
-- place of its line, and the lines are theirs.
pub record AreListed (size : ℕ) (body : List ℕ) (shown : List Ended) (faults : List PageFault)
    (lines : PageLines) : Type 0 where
  pub rows : map (λ entry. entry.row) (take (length shown) faults) ≡ rows_of_faults shown
  pub places : All (λ entry. IsPlace size body entry.row entry.offset)
      (take (length shown) faults)
  pub text : written_lines lines ≡ lines_of text_lines shown

-- the first line of a text, which has bytes
pub record HasLine (text bare : List ℕ) : Type 0 where
  pub after : List ℕ
  pub line : IsLine text bare after
  pub some : bare ≢ []

-- All lines were read: the text is the lines of the last stretch, and of the whole.
pub record IsWhole (rows : List Event) (ended : List Ended) (last : Stretch) (rest : List ℕ)
    (row : ℕ) (text : List ℕ) : Type 0 where
  pub all : rest ≡ []
  pub number : row ≡ length rows
  pub few : row ≤ ROWS_MAX
  pub is : text ≡ stretch_text last ++ summary_text (summary_of ended last)

-- The reading ended before a row: the text is the lines of the stretch that ran.
pub record IsPart (rows : List Event) (last : Stretch) (row : ℕ) (text : List ℕ) : Type 0 where
  pub number : row ≡ length rows + 1
  pub is : text ≡ stretch_text last

-- Why a survey ended after rows, where a text is left: the row and the fault that are told, the
-- text of the answer, and the answer.
pub data EndsSo (rows : List Event) (ended : List Ended) (last : Stretch) (rest : List ℕ)
    (row fault : ℕ) (text : List ℕ) : ℕ → Type 0 where
  -- All lines were read, and there is no fault.
  faultless : IsWhole rows ended last rest row text → ended ≡ []
      → EndsSo rows ended last rest row fault text 0
  -- All lines were read, and there is a fault.
  faulty : IsWhole rows ended last rest row text → ended ≢ []
      → EndsSo rows ended last rest row fault text 1
  -- The next line tells no row.
  no_row : (why : RowFault) → IsPart rows last row text → row ≤ ROWS_MAX → IsNoRow rest why
      → fault ≡ number_of why → EndsSo rows ended last rest row fault text 2
  -- There are as many rows as there may be, and one line more.
  too_long : {bare : List ℕ} → IsPart rows last row text → HasLine rest bare
      → row ≡ ROWS_MAX + 1 → EndsSo rows ended last rest row fault text 3
  -- The next line has a quote, or a CR that doesn't end it.
  unread : {bare : List ℕ} → IsPart rows last row text → row ≤ ROWS_MAX → HasLine rest bare
      → IsUnread bare → EndsSo rows ended last rest row fault text 4

-- The first lines of a text are rows that have a survey, and the reading ended after them. Of its
-- faults those after the first `skip` are listed, as far as they have room. The number of all, and
-- of these, is told, and how many bytes stand before what is left.
pub record IsSurveyed (scope : Scope) (text : List ℕ) (skip : ℕ) (faults : List PageFault)
    (lines : PageLines) (told : PageTold) (answer : PageText) (number : ℕ) : Type 0 where
  pub body : List ℕ
  pub unmarked : IsUnmarked text body
  pub rows : List Event
  pub rest : List ℕ
  pub read : HasRead body rows rest
  pub offset : told.offset + length rest ≡ length text
  pub ended : List Ended
  pub last : Stretch
  pub survey : IsSurvey scope rows ended last
  pub ends : EndsSo rows ended last rest told.row told.fault (written answer) number
  pub all : told.acts ≡ length ended
  pub shown : List Ended
  pub are : AreShown skip (length faults) ended shown
  pub count : told.news ≡ length shown
  pub listed : AreListed (length text) body shown faults lines
