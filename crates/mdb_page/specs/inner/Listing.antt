-- How the list of the acts comes about, row by row. This file serves private functions and proofs:
-- no public clause cites it.
use Rattle.std.specs.Prelude.{◌≡◌, ◌≢◌, ◌+◌, ◌<◌, ◌≤◌, ℕ, List, [], ◌∷◌, length, Option, Some, None}
use Rattle.mdb_words.specs.declared.event.Event.{Event}
use Rattle.mdb_words.specs.Event.{start_of}
use Rattle.mdb_bus.specs.declared.act.Act.{Act}
use Rattle.mdb_bus.specs.declared.scope.Scope.{Scope}
use Rattle.mdb_bus.specs.ActLists.{ArePieces, Piece, Whole, AskTail, ReplyTail, RepeatTail, events_of}
use Rattle.mdb_bus.specs.Bus.{Grown}
use Rattle.mdb_bus.specs.ClosedPieces.{closed_pieces}
use Rattle.mdb_follow.specs.declared.follower.TheConstants.{ROWS_MAX}
use Rattle.mdb_page.specs.Acts.{AreListed, HasRows, IsReading, place_in}
use Rattle.mdb_page.specs.declared.acts.ActListing.{ActListing}
use Rattle.mdb_page.specs.declared.acts.PageAct.{PageAct}
use Rattle.mdb_page.specs.declared.answer.PageTold.{PageTold}
use Rattle.mdb_page.specs.declared.rows.Rows.{Rows}

-- The next place is that of the next piece, if that has one.
pub record IsNextPlace (first room count next : ℕ) : Type 0 where
  pub there : place_in first room count < room → next ≡ place_in first room count
  pub full : room ≤ place_in first room count → room ≤ next

-- the next place before and after an entry: it is that of the entry, or there is none
abbrev pub MovesTo : ℕ → ℕ → ℕ → Option ℕ → ℕ → Type 0
MovesTo first room next None new = (room ≤ next) × (new ≡ next)
MovesTo first room next (Some place) new = (place ≡ next) × (place + 1 < room → new ≡ place + 1)
    × (room ≤ place + 1 → new ≡ first)

-- A listing goes on by an entry, which has a place or none.
pub record Moves (room : ℕ) (was now : ActListing) (place : Option ℕ) : Type 0 where
  pub same : now.first ≡ was.first
  pub counted : was.count ≤ ROWS_MAX → now.count ≡ was.count + 1
  pub next : MovesTo was.first room was.next place now.next

-- an entry with these rows in place of its own
abbrev pub with_rows : PageAct → Rows → PageAct
with_rows entry rows = record entry {
  first = rows.first;
  last = rows.last;
  start = rows.start;
  end = rows.end;
}

-- these are the rows of events that have so many rows before them
abbrev pub AreOf : Rows → ℕ → List Event → Type 0
AreOf rows before events = HasRows before events rows.first rows.last rows.start rows.end

-- A listing has listed pieces.
pub record HasListed (first : ℕ) (before : List PageAct) (pieces : List Piece)
    (listing : ActListing) (after : List PageAct) : Type 0 where
  pub stay : listing.first ≡ first
  pub place : IsNextPlace first (length before) (length pieces) listing.next
  pub number : listing.count ≡ length pieces
  pub entries : AreListed pieces first before after

-- A listing has listed pieces, and the rows are those of events that came since.
pub record HasBegun (first : ℕ) (before : List PageAct) (pieces : List Piece)
    (begun : List Event) (listing : ActListing) (after : List PageAct) (rows : Rows)
    : Type 0 where
  pub listed : HasListed first before pieces listing after
  pub from : rows.first ≡ length (events_of pieces) + 1
  pub to : rows.last ≡ length (events_of pieces) + length begun
  pub are : begun ≢ [] → AreOf rows (length (events_of pieces)) begun

-- the events of the tail that is open
abbrev pub open_events : List Piece → List Event
open_events [] = []
open_events (Whole act events ∷ pieces) = []
open_events (AskTail bytes events ∷ pieces) = events
open_events (ReplyTail command bytes events ∷ pieces) = events
open_events (RepeatTail command reply words events ∷ pieces) = events

-- A listing has taken the rows of pieces: those of the closed ones are listed.
pub record HasTakenPieces (first : ℕ) (before : List PageAct) (pieces : List Piece)
    (listing : ActListing) (after : List PageAct) (rows : Rows) : Type 0 where
  pub scope : Scope
  pub in_order : ArePieces scope pieces
  pub begun : HasBegun first before (closed_pieces pieces) (open_events pieces) listing after
      rows

-- Rows have one row more, which started at a time.
pub record HasAdded (rows : Rows) (at : ℕ) (new : Rows) : Type 0 where
  pub first : new.first ≡ rows.first
  pub last : new.last ≡ rows.last + 1
  pub started : rows.first ≡ rows.last + 1 → new.start ≡ at
  pub start : rows.first ≢ rows.last + 1 → new.start ≡ rows.start
  pub end : new.end ≡ at

-- Pieces go on by a row that started at a time, and by the act that it ends, if it ends one.
pub record Lengthens (pieces : List Piece) (at : ℕ) (act : Option Act) (longer : List Piece)
    : Type 0 where
  pub scope : Scope
  pub in_order : ArePieces scope longer
  pub row : Event
  pub start : at ≡ start_of row
  pub grown : Grown pieces row act longer

-- The first lines of a text were walked over, and their acts are listed.
pub record HasWalked (scope : Scope) (lines rest : List ℕ) (first : ℕ)
    (before after : List PageAct) (listing : ActListing) (told : PageTold) (answer : ℕ)
    : Type 0 where
  pub shown : List Piece
  pub reading : IsReading scope lines rest told.row told.fault answer shown
  pub listed : HasListed first before shown listing after
