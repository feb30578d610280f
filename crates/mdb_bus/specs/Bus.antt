-- What a bus stands for: it never stores the rows that it was fed.
use Rattle.std.specs.Prelude.{◌≡◌, ◌⊎◌, ℕ, List, [], ◌∷◌, ◌++◌, take, Bool, true, false, Option, Some, None}
use Rattle.mdb_words.specs.declared.event.Event.{Event}
use Rattle.mdb_bus.specs.declared.act.Act.{Act}
use Rattle.mdb_bus.specs.declared.bus.Bus.{Bus}
use Rattle.mdb_bus.specs.declared.place.Place.{Place}
use Rattle.mdb_bus.specs.declared.scope.Scope.{Scope}
use Rattle.mdb_msgs.specs.declared.command.Command.{Command}
use Rattle.mdb_msgs.specs.declared.reply.Reply.{Reply}
use Rattle.mdb_bus.specs.declared.phase.Phase.{Phase}
use Rattle.mdb_bus.specs.declared.phase.Phase.TheVariants as phase
use Rattle.mdb_bus.specs.Acts.{reply_words}
use Rattle.mdb_bus.specs.ActLists.{Piece, Position, Quiet, InAsk, Asked, InReply, Replied, Returned, InRepeat, InForeign, ArePieces, acts_of, events_of, last_of, levels_of, piece_events, position_of}
use Rattle.mdb_bus.specs.Pieces.{IsTail, act_in, with_act}
use Rattle.mdb_bus.specs.LinkFaults.{asked_device}
use Rattle.mdb_bus.specs.ExtendedHaste.{haste_of, is_awaited}
use Rattle.mdb_bus.specs.Scopes.{levels_before, profile_of}
use Rattle.mdb_bus.specs.ExtendedTimes.{untimely_of, untimely_sender, with_sender}
use Rattle.mdb_bus.specs.ExtendedMoney.{first_known, known_of}

-- the position that a phase is, with the last bytes, the last command and the last reply
abbrev pub position_in : Phase → List ℕ → Command → Reply → Position
position_in phase.Quiet bytes command reply = Quiet
position_in phase.InAsk bytes command reply = InAsk bytes
position_in phase.Asked bytes command reply = Asked command
position_in phase.InReply bytes command reply = InReply command bytes
position_in phase.Replied bytes command reply = Replied command reply
position_in phase.Returned bytes command reply = Returned command reply
position_in (phase.InRepeat said) bytes command reply =
    InRepeat command reply (take said (reply_words reply))
position_in phase.InForeign bytes command reply = InForeign

-- the position that a place is
abbrev pub position_at : Place → Position
position_at place = position_in place.phase place.bytes place.command place.last_reply.reply

-- Whether an answer, or a repeat, is awaited at a position. What is kept says it of foreign traffic
-- alone.
abbrev pub awaited_at : Position → Bool → Bool
awaited_at (InAsk bytes) kept = true
awaited_at (Asked command) kept = true
awaited_at (Returned command reply) kept = true
awaited_at InForeign kept = kept
awaited_at position kept = false

-- how the recording is taken that a bus is fed
abbrev pub scope_of : Bus → Scope
scope_of bus = bus.scope

-- the bytes so far of the block of the controller that is open at a position, and on a bus; none
-- where none is
abbrev pub open_block : Position → List ℕ
open_block (InAsk bytes) = bytes
open_block position = []

abbrev pub open_block_of : Bus → List ℕ
open_block_of bus = open_block (position_at bus.place)

-- A bus stands for pieces: they are in order, and the bus is where they leave it.
pub record StandsFor (bus : Bus) (pieces : List Piece) : Type 0 where
  pub in_order : ArePieces (scope_of bus) pieces
  pub position : position_of (scope_of bus) pieces ≡ position_at bus.place
  pub last : last_of (events_of pieces) ≡ bus.last
  pub levels : levels_of (profile_of (scope_of bus).begins) (levels_before (scope_of bus)) pieces
      ≡ bus.levels
  pub features : known_of (first_known (scope_of bus).begins) (acts_of pieces) ≡ bus.features
  pub asked : asked_device pieces ≡ bus.asked
  pub awaited : is_awaited pieces ≡ awaited_at (position_at bus.place) bus.awaited
  pub haste : haste_of (scope_of bus) pieces ≡ bus.haste

-- the act, if one was ended
abbrev pub ended_act : Bool → Act → Option Act
ended_act true act = Some act
ended_act false act = None

-- Pieces have gone on by a row: with a new piece of this row alone, or with what a tail, the newest
-- of them, has become by it. The act is the one that the row ends, if it ends one.
pub record Grown (pieces : List Piece) (row : Event) (act : Option Act)
    (longer : List Piece) : Type 0 where
  pub newest : Piece
  pub earlier : List Piece
  pub are : longer ≡ newest ∷ earlier
  -- the rows before this one that the newest piece has
  pub begun : List Event
  pub events : piece_events newest ≡ begun ++ row ∷ []
  pub ends : act_in newest ≡ act
  pub from : ((begun ≡ []) × (pieces ≡ earlier))
      ⊎ ((tail : Piece) × IsTail tail × (piece_events tail ≡ begun) × (pieces ≡ tail ∷ earlier))

-- A bus stands for one row more, and tells the act that the row ends, if it ends one.
pub record GoesOn (bus : Bus) (pieces : List Piece) (row : Event) (act : Option Act) : Type 0 where
  pub longer : List Piece
  pub stands : StandsFor bus longer
  pub rows : events_of longer ≡ events_of pieces ++ row ∷ []
  pub acts : acts_of longer ≡ with_act act (acts_of pieces)
  pub grown : Grown pieces row act longer
  pub untimely : untimely_of (scope_of bus) longer
      ≡ with_sender (untimely_sender (scope_of bus) pieces row) (untimely_of (scope_of bus) pieces)
