-- What `show` answers to the records of a text, and what it writes of them, in whatever form.
use Rattle.std.specs.Prelude.{◌≡◌, ◌≢◌, ◌+◌, ◌<◌, ℕ, List, ◌++◌, length, Option, Some, None, Result, Ok, Err, IfSome}
use Rattle.csv.specs.Reading.{default_config, records, strip_bom}
use Rattle.mdb_words.specs.declared.event.Event.{Event}
use Rattle.mdb_words.specs.Row.{IsRow}
use Rattle.mdb_words.specs.Refusals.{IsRefusal}
use Rattle.mdb_bus.specs.declared.fault.LinkFault.{LinkFault}
use Rattle.mdb_bus.specs.ActLists.{IsActList, Piece}
use Rattle.mdb_bus.specs.LinkFaults.{IsLinkFault}
use Rattle.mdb_follow.specs.declared.follower.TheConstants.{ROWS_MAX}
use Rattle.mdb_verdict.specs.declared.fault.RunFault.{RunFault}
use Rattle.mdb_show.specs.Lines.{LineForm, lines_of}
use Rattle.mdb_show.specs.ShowJson.{json_lines}
use Rattle.mdb_show.specs.ShowText.{text_lines}
use Rattle.mdb_text.specs.declared.form.Form.{Form}
use Rattle.mdb_text.specs.declared.form.Form.TheVariants.{Text, Json}
use Rattle.mdb_verdict.specs.Telling.{Tells}
use Rattle.mdb_verdict.specs.Unanswered.{IsUnanswered}
use Rattle.mdb_verdict.specs.Verdict.{IsStopped, IsTakenWhole}
use Rattle.mdb_writing.specs.Answers.{IsCutShort}
use Rattle.mdb_verdict.specs.declared.verdict.TheConstants.{BYTES_MAX}
use Rattle.mdb_bus.specs.declared.scope.Scope.{Scope}
use Rattle.mdb_bus.specs.ClosedPieces.{closed_pieces}

-- These rows have an act list. The text is its lines, that of a tail at its end too.
pub record HasAllLines (form : LineForm) (scope : Scope) (rows : List Event) (text : List ℕ)
    : Type 0 where
  pub pieces : List Piece
  pub list : IsActList scope pieces rows
  pub lines : text ≡ lines_of form pieces

-- The same without one for a tail that is still open.
pub record HasLines (form : LineForm) (scope : Scope) (rows : List Event) (text : List ℕ)
    : Type 0 where
  pub pieces : List Piece
  pub list : IsActList scope pieces rows
  pub lines : text ≡ lines_of form (closed_pieces pieces)

-- The row after these breaks a rule of the link. The text has its line, too, after those.
pub record HasFaultLine (form : LineForm) (scope : Scope) (rows : List Event) (row : Event)
    (fault : LinkFault) (text : List ℕ) : Type 0 where
  pub pieces : List Piece
  pub list : IsActList scope pieces rows
  pub is : IsLinkFault scope pieces row fault.rule fault.blame
  pub lines : text ≡ lines_of form (closed_pieces pieces) ++ form.fault (length rows + 1) fault

-- All records are rows, and the text is all their lines.
abbrev pub IsShownWholeIn : LineForm → Scope → List (List (List ℕ)) → List ℕ → Type 0
IsShownWholeIn form scope records text =
    IsTakenWhole IsRow (λ rows. HasAllLines form scope rows text) ROWS_MAX records

-- A record is a row that breaks a rule of the link, and the text ends with its line.
abbrev pub IsShownToFaultIn : LineForm → Scope → List (List (List ℕ)) → LinkFault → List ℕ
    → Type 0
IsShownToFaultIn form scope records fault text =
    IsStopped IsRow (λ rows row. HasFaultLine form scope rows row fault text) ROWS_MAX records

-- The answer to the records of a text, and the text that is written of them. A refused read or
-- memory may come after any row. That the writer failed is none of these answers.
abbrev pub IsShowingIn : LineForm → Scope → List (List (List ℕ))
    → Result (Option LinkFault) RunFault → List ℕ → Type 0
IsShowingIn form scope records (Ok None) text = IsShownWholeIn form scope records text
IsShowingIn form scope records (Ok (Some fault)) text =
    IsShownToFaultIn form scope records fault text
IsShowingIn form scope records (Err fault) text =
    IsUnanswered IsRow IsRefusal (λ rows. HasLines form scope rows text) ROWS_MAX records fault

-- the same of the bytes that a writer held before and after
abbrev pub ShowsIn : LineForm → Scope → List (List (List ℕ)) → Option (List ℕ) → Option (List ℕ)
    → Result (Option LinkFault) RunFault → Type 0
ShowsIn form scope records = Tells (IsShowingIn form scope records)

-- the writer took a front of a text that goes with some answer to the records
abbrev pub IsCutShortIn : LineForm → Scope → List (List (List ℕ)) → Option (List ℕ)
    → Option (List ℕ) → Type 0
IsCutShortIn form scope records = IsCutShort (IsShowingIn form scope records)

-- the acts aren't shown to the end
abbrev pub IsNotWhole : Result (Option LinkFault) RunFault → Type 0
IsNotWhole answer = answer ≢ Ok None

-- What is shown of the text that a reader has left, where that is known. A text that is longer than
-- allowed isn't shown to the end.
pub record ShowsText (scope : Scope) (left before after : Option (List ℕ))
    (answer : Result (Option LinkFault) RunFault) : Type 0 where
  pub shows : IfSome left (λ text.
      ShowsIn text_lines scope (records default_config (strip_bom text)) before after answer)
  pub whole : IfSome left (λ text. BYTES_MAX < length text → IsNotWhole answer)

-- the lines of a form
abbrev pub lines_in : Form → LineForm
lines_in Text = text_lines
lines_in Json = json_lines
