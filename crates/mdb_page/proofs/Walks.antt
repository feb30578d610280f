-- How a walk over the lines of a text goes on, and how it ends.
use Rattle.mdb_page.proofs.Words.{Act, ActListing, ArePieces, Bool, Event, GoesOn, HasRead, HasTakenPieces, HasWalked, IsBare, IsFirstLine, IsLine, IsNext, IsUnread, Lengthens, LineFault, List, NamesAReply, Option, PageAct, PageTold, Piece, ROWS_MAX, Rows, Scope, Some, TellsNoRow, TellsRow, Whole, [], ap, arith, blank, closed_pieces, ended_act, eq-eqb, eqb-true, events_of, false, length, nil_from_length, number_of, piece_events, refl, row, start, start_of, sym, true, true≢false, ℕ, ◌++◌, ◌+◌, ◌<◌, ◌==◌, ◌∙◌, ◌∷◌, ◌≡◌, ◌≢◌, ◌≤◌}
use Rattle.mdb_words.specs.declared.row.RowFault.{RowFault}
use Rattle.mdb_bus.specs.declared.bus.Bus.{Bus}
use Rattle.mdb_bus.specs.declared.fault.LinkFault.{LinkFault}
use Rattle.mdb_bus.specs.Bus.{StandsFor, scope_of}
use Rattle.mdb_bus.specs.LinkFaults.{IsLinkFault}
use Rattle.mdb_page.specs.Acts.{EndsSo, broken, no_row, too_long, unread, whole}
use Rattle.mdb_page.specs.inner.Listing.{HasListed}
use Rattle.mdb_page.specs.declared.lines.LineFault.TheVariants as faults
use Rattle.mdb_bus.proofs.Breaks.{whole_of}
use Rattle.mdb_page.proofs.Turns.{last_row}

-- Some first lines were walked over: the bus stands for the pieces of their rows, which were taken.
pub record Walks (scope : Scope) (lines rest : List ℕ) (bus : Bus) (stay : ℕ)
    (before after : List PageAct) (listing : ActListing) (taken : Rows) : Type 0 where
  pub rows : List Event
  pub read : HasRead lines rows rest
  pub pieces : List Piece
  pub stands : StandsFor bus pieces
  pub in_scope : scope_of bus ≡ scope
  pub are : events_of pieces ≡ rows
  pub has : HasTakenPieces stay before pieces listing after taken

-- the first line of a text, by its parts
pub line_of : {text line bare rest : List ℕ} → IsFirstLine text line rest → IsBare line bare
    → IsLine text bare rest
line_of {line} first is = record { line = line; first = first; is = is }

-- a line with bytes, and one without
pub has_bytes : (bare : List ℕ) → false ≡ (length bare == 0) → bare ≢ []
has_bytes bare some none = true≢false (sym (eq-eqb (length bare) 0 (ap length none)) ∙ sym some)

pub has_none : (bare : List ℕ) → true ≡ (length bare == 0) → bare ≡ []
has_none bare none = nil_from_length bare (eqb-true (length bare) 0 (sym none))

-- the first line of a text without bytes, by its parts
pub blank_line_of : {text line rest : List ℕ} (bare : List ℕ) → IsFirstLine text line rest
    → IsBare line bare → true ≡ (length bare == 0) → IsLine text [] rest
blank_line_of bare first is none = line_of first (rw (has_none bare none) at is)

-- what `feed_into` says
abbrev pub Feeds : Bus → Bus → Event → Bool → Act → Type 0
Feeds bus next event ended act = (pieces : List Piece) → StandsFor bus pieces
    → GoesOn next pieces event (ended_act ended act)

-- what `take` says
abbrev pub Takes : List PageAct → List PageAct → ActListing → ActListing → Rows → Rows → ℕ
    → Option Act → Type 0
Takes now later listing next taken new at act = (stay : ℕ) (before : List PageAct)
    (pieces longer : List Piece) → HasTakenPieces stay before pieces listing now taken
    → Lengthens pieces at act longer → HasTakenPieces stay before longer next later new

-- what `cut` says
abbrev pub Cuts : List PageAct → List PageAct → ActListing → ActListing → Rows → Type 0
Cuts now later listing next taken = (stay : ℕ) (before : List PageAct) (pieces : List Piece)
    → HasTakenPieces stay before pieces listing now taken → taken.last ≤ ROWS_MAX
    → HasListed stay before pieces next later

-- what is known of a line that is no row, by its fault
abbrev pub IsFaultOf : List ℕ → LineFault → Type 0
IsFaultOf bare fault = ((why : RowFault) → fault ≡ faults.BadRow why → TellsNoRow bare why)
    × (fault ≡ faults.Unread → IsUnread bare)

-- what `line_answer` says
pub record IsLineAnswer (fault : LineFault) (told : PageTold) (answer : ℕ) : Type 0 where
  pub row_fault : (why : RowFault) → fault ≡ faults.BadRow why → answer ≡ 2
  pub bad_row : answer ≡ 2 → (why : RowFault) × (fault ≡ faults.BadRow why)
      × (told.fault ≡ number_of why)
  pub unread : fault ≡ faults.Unread → answer ≡ 4

-- before the first line
pub starts : (lines : List ℕ) (bus : Bus) (stay : ℕ) (before : List PageAct)
    (listing : ActListing) (taken : Rows) → StandsFor bus []
    → HasListed stay before [] listing before → taken.first ≡ 1 → taken.last ≡ 0
    → Walks (scope_of bus) lines lines bus stay before before listing taken
starts lines bus stay before listing taken stands listed first last = record {
  rows = [];
  read = start;
  pieces = [];
  stands = stands;
  in_scope = refl;
  are = refl;
  has = record {
    scope = scope_of bus;
    in_order = tt;
    begun = record { listed = listed; from = first; to = last; are = λ some. absurd (some refl) };
  };
}

-- the reply of the act that a row ends is one of its command
pub names : (bus next : Bus) (event : Event) (ended : Bool) (act : Act) (pieces : List Piece)
    → ((scope : Scope) (act : Act) (events : List Event) (pieces : List Piece)
    → ArePieces scope (Whole act events ∷ pieces) → NamesAReply act)
    → StandsFor bus pieces → Feeds bus next event ended act → ended ≡ true → NamesAReply act
names bus next event ended act pieces law stands feeds is =
    let gone : GoesOn next pieces event (Some act) = rw is at (feeds pieces stands) in
    let newest = gone.grown.newest in
    let are : gone.longer ≡ Whole act (piece_events newest) ∷ gone.grown.earlier =
    gone.grown.are ∙ ap (λ piece. piece ∷ gone.grown.earlier)
    (whole_of newest act gone.grown.ends) in
    law (scope_of next) act (piece_events newest) gone.grown.earlier
    (rw are at gone.stands.in_order)

-- why a line is no row, and what is told of it
line_ends : (scope : Scope) (rest bare : List ℕ) (pieces : List Piece) (fault : LineFault)
    (told : PageTold) (answer : ℕ) → IsNext rest bare pieces told.row → told.row ≤ ROWS_MAX
    → IsFaultOf bare fault → IsLineAnswer fault told answer
    → EndsSo scope pieces rest told.row told.fault answer pieces
line_ends scope rest bare pieces (faults.BadRow why) told answer next few is told_so =
    let two = told_so.row_fault why refl in
    let bad = told_so.bad_row two in
    rw two (no_row bad.0 next few (is.0 bad.0 bad.1) bad.2)
line_ends scope rest bare pieces faults.Unread told answer next few is told_so =
    rw (told_so.unread refl) (unread next few (is.1 refl))

-- A walk goes on from some lines, or ends there.
module _ {scope : Scope} {lines rest : List ℕ} {bus : Bus} {stay : ℕ} {before now : List PageAct}
    {listing : ActListing} {taken : Rows}
    (walks : Walks scope lines rest bus stay before now listing taken) where
  -- a line without bytes
  pub goes_on_blank : {after : List ℕ} → IsLine rest [] after
      → Walks scope lines after bus stay before now listing taken
  goes_on_blank line = record {
    rows = walks.rows;
    read = blank walks.read line;
    pieces = walks.pieces;
    stands = walks.stands;
    in_scope = walks.in_scope;
    are = walks.are;
    has = walks.has;
  }

  -- where it ends, by what ends it
  walked : {later : List PageAct} {next : ActListing} (told : PageTold) (answer : ℕ)
      (shown : List Piece) → EndsSo scope walks.pieces rest told.row told.fault answer shown
      → HasListed stay before shown next later
      → HasWalked scope lines rest stay before later next told answer
  walked told answer shown ends listed = record {
    shown = shown;
    reading = record {
      rows = walks.rows;
      read = walks.read;
      pieces = walks.pieces;
      act_list = record {
        in_order = rw walks.in_scope at walks.stands.in_order;
        whole = walks.are;
      };
      ends = ends;
    };
    listed = listed;
  }

  -- all lines were read
  pub ends_whole : {later : List PageAct} {next : ActListing} (told : PageTold) → rest ≡ []
      → told.row ≡ taken.last → taken.last ≤ ROWS_MAX → Cuts now later listing next taken
      → HasWalked scope lines rest stay before later next told 0
  ends_whole told none number few cuts = walked told 0 walks.pieces
      (whole none (number ∙ last_row walks.has) (rw number few))
      (cuts stay before walks.pieces walks.has few)

  module _ {bare after : List ℕ} (line : IsLine rest bare after) where
    -- a row
    pub goes_on_row : {next : Bus} {later : List PageAct} {more : ActListing} {new : Rows}
        {event : Event} (ended : Bool) (act : Act) {at : ℕ} → TellsRow bare event
        → Feeds bus next event ended act → scope_of next ≡ scope_of bus → at ≡ start_of event
        → Takes now later listing more taken new at (ended_act ended act)
        → Walks scope lines after next stay before later more new
    goes_on_row {next = next} {event = event} ended act tells feeds same is takes =
        let gone = feeds walks.pieces walks.stands in
        record {
          rows = walks.rows ++ event ∷ [];
          read = row event walks.read line tells;
          pieces = gone.longer;
          stands = gone.stands;
          in_scope = same ∙ walks.in_scope;
          are = gone.rows ∙ ap (λ l. l ++ event ∷ []) walks.are;
          has = takes stay before walks.pieces gone.longer walks.has (record {
            scope = scope_of next;
            in_order = gone.stands.in_order;
            row = event;
            start = is;
            grown = gone.grown;
          });
        }

    -- where the next line has bytes
    module _ (some : bare ≢ []) (told : PageTold) (number : told.row ≡ taken.last + 1) where
      next_line : IsNext rest bare walks.pieces told.row
      next_line = record {
        after = after;
        line = line;
        some = some;
        number = number ∙ ap (λ n. n + 1) (last_row walks.has);
      }

      -- the next row breaks a rule of the link
      pub ends_broken : (event : Event) (fault : LinkFault) → taken.last < ROWS_MAX
          → TellsRow bare event
          → ((pieces : List Piece) → StandsFor bus pieces
          → IsLinkFault (scope_of bus) pieces event fault.rule fault.blame)
          → HasWalked scope lines rest stay before now listing told 1
      ends_broken event fault few tells faults = walked told 1 (closed_pieces walks.pieces)
          (broken event fault.rule fault.blame next_line (omega (arith, number, few)) tells
          (rw walks.in_scope at (faults walks.pieces walks.stands)))
          walks.has.begun.listed

      -- there are too many rows
      pub ends_too_long : {later : List PageAct} {next : ActListing} → taken.last ≡ ROWS_MAX
          → Cuts now later listing next taken
          → HasWalked scope lines rest stay before later next told 3
      ends_too_long full cuts = walked told 3 walks.pieces
          (too_long next_line (number ∙ ap (λ n. n + 1) full))
          (cuts stay before walks.pieces walks.has (omega (arith, full)))

      -- the next line is no row
      pub ends_no_row : {later : List PageAct} {next : ActListing} (fault : LineFault) (answer : ℕ)
          → taken.last < ROWS_MAX → IsFaultOf bare fault → IsLineAnswer fault told answer
          → Cuts now later listing next taken
          → HasWalked scope lines rest stay before later next told answer
      ends_no_row fault answer few is told_so cuts = walked told answer walks.pieces
          (line_ends scope rest bare walks.pieces fault told answer next_line
          (omega (arith, number, few)) is told_so)
          (cuts stay before walks.pieces walks.has (omega (arith, few)))
