-- How the lines of `show` come about, row by row, in whatever form. This file serves private
-- functions and proofs: no public clause cites it.
use Rattle.std.specs.Prelude.{◌≡◌, ◌⊎◌, ◌+◌, ◌≤◌, ℕ, List, [], ◌∷◌, ◌++◌, length, Option, Some, None, Result, Ok, Err, if◌then◌else◌, nat_lt}
use Rattle.mdb_words.specs.declared.event.Event.{Event}
use Rattle.mdb_bus.specs.declared.act.Act.{Act}
use Rattle.mdb_bus.specs.declared.act.Act.TheVariants as acts
use Rattle.mdb_bus.specs.declared.bus.Bus.{Bus}
use Rattle.mdb_bus.specs.declared.fault.LinkFault.{LinkFault}
use Rattle.mdb_bus.specs.ActLists.{Piece, events_of}
use Rattle.mdb_bus.specs.Bus.{StandsFor, scope_of}
use Rattle.mdb_verdict.specs.declared.fault.RunFault.{RunFault}
use Rattle.mdb_verdict.specs.declared.fault.RunFault.TheVariants.{BadRow, TooLong, Read, Write, Memory}
use Rattle.mdb_show.specs.declared.showing.Lines.{Lines}
use Rattle.mdb_show.specs.Show.{HasFaultLine, HasLines, IsShowingIn}
use Rattle.mdb_writing.specs.Answers.{IsSent}
use Rattle.mdb_writing.specs.Output.{Breaks, Output, Puts}
use Rattle.mdb_show.specs.Lines.{LineForm, lines_of}
use Rattle.mdb_bus.specs.declared.scope.Scope.{Scope}
use Rattle.mdb_bus.specs.ClosedPieces.{closed_pieces}

-- the line of a tail, if there is one: of `rows` rows only the first `shown` are in pieces that are
-- closed
abbrev pub cut_text : LineForm → ℕ → ℕ → List ℕ
cut_text form shown rows = if nat_lt shown rows then form.cut (shown + 1) rows else []

-- the lines of the act that the next row ends: before it that of the tail that a break cuts
abbrev pub ended_text : LineForm → ℕ → ℕ → Act → List ℕ
ended_text form shown rows (acts.Break length) =
    cut_text form shown rows ++ form.act (rows + 1) (rows + 1) (acts.Break length)
ended_text form shown rows act = form.act (shown + 1) (rows + 1) act

-- A bus stands for some pieces.
abbrev pub HasPieces : Bus → Type 0
HasPieces bus = (pieces : List Piece) × StandsFor bus pieces

-- The rows so far are those of pieces for which the bus stands. The lines of the closed ones, which
-- have the first `shown` rows, are on their way.
pub record HasShown (form : LineForm) (scope : Scope) (lines : Lines)
    (before after : Output) (rows : List Event) : Type 0 where
  pub in_scope : scope_of lines.bus ≡ scope
  pub pieces : List Piece
  pub stands : StandsFor lines.bus pieces
  pub are : events_of pieces ≡ rows
  pub counted : length rows ≡ lines.rows
  pub closed : length (events_of (closed_pieces pieces)) ≡ lines.shown
  pub few : lines.shown ≤ lines.rows
  pub written : Puts before after (lines_of form (closed_pieces pieces))

-- a text that the adding of the lines of a row may come to
abbrev pub IsAdded : LineForm → Scope → List Event → Event → List ℕ → Type 0
IsAdded form scope rows row text = HasLines form scope (rows ++ row ∷ []) text
    ⊎ ((fault : LinkFault) × HasFaultLine form scope rows row fault text)

-- what the adding of the lines of a row after earlier ones comes to
abbrev pub HasAdded : LineForm → Scope → Lines → Output → Output → List Event → Event
    → Result (Option LinkFault) RunFault → Type 0
HasAdded form scope lines before after rows row (Ok None) =
    HasShown form scope lines before after (rows ++ row ∷ [])
HasAdded form scope lines before after rows row (Ok (Some fault)) =
    (text : List ℕ) × HasFaultLine form scope rows row fault text × Puts before after text
HasAdded form scope lines before after rows row (Err (BadRow number fault)) = ⊥
HasAdded form scope lines before after rows row (Err TooLong) = ⊥
HasAdded form scope lines before after rows row (Err Read) = ⊥
HasAdded form scope lines before after rows row (Err Write) =
    (text : List ℕ) × IsAdded form scope rows row text × Breaks before after text
HasAdded form scope lines before after rows row (Err Memory) =
    (text : List ℕ) × HasLines form scope rows text × Puts before after text

-- the same where the row was stopped at
abbrev pub HasStopped : LineForm → Scope → Lines → Output → Output → List Event → Event
    → Result LinkFault RunFault → Type 0
HasStopped form scope lines before after rows row (Ok fault) =
    HasAdded form scope lines before after rows row (Ok (Some fault))
HasStopped form scope lines before after rows row (Err fault) =
    HasAdded form scope lines before after rows row (Err fault)

-- what `ShowsIn` says, where some of the text may still be on its way
abbrev pub PutsShowing : LineForm → Scope → List (List (List ℕ)) → Output → Output
    → Result (Option LinkFault) RunFault → Type 0
PutsShowing form scope records = IsSent (IsShowingIn form scope records) Write
