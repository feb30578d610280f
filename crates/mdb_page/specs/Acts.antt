-- What the list of the acts has of a text.
use Rattle.std.specs.Prelude.{◌≡◌, ◌≢◌, ◌+◌, ◌-◌, ◌%◌, ◌<◌, ◌≤◌, ◌⊎◌, ℕ, Bool, true, false, List, [], ◌∷◌, ◌++◌, length, take, map, get_or, if◌then◌else◌, nat_lt, Option, Some, None}
use Rattle.std.specs.List.{list_any}
use Rattle.mdb_words.specs.declared.event.Event.{Event}
use Rattle.mdb_words.specs.declared.row.RowFault.{RowFault}
use Rattle.mdb_words.specs.Event.{start_of}
use Rattle.mdb_words.specs.Block.{block_of}
use Rattle.mdb_msgs.specs.declared.command.Command.{Command}
use Rattle.mdb_msgs.specs.declared.command.Device.{Device}
use Rattle.mdb_msgs.specs.declared.command.Device.TheVariants.{Changer, Bill, Reader}
use Rattle.mdb_msgs.specs.declared.command.ReaderUnit.TheVariants.{First, Second}
use Rattle.mdb_msgs.specs.Commands.{command_bytes, device_of}
use Rattle.mdb_msgs.specs.declared.reply.Reply.{Reply}
use Rattle.mdb_msgs.specs.declared.reply.Reply.TheVariants as replies
use Rattle.mdb_msgs.specs.declared.reply.reader.ReaderMsg.{ReaderMsg}
use Rattle.mdb_msgs.specs.declared.reply.reader.ReaderMsg.TheVariants.{PeripheralIdWithOptions}
use Rattle.mdb_msgs.specs.Reader.{has_long}
use Rattle.mdb_msgs.specs.Replies.{reply_bytes}
use Rattle.mdb_bus.specs.declared.act.Act.{Act}
use Rattle.mdb_bus.specs.declared.act.Act.TheVariants as acts
use Rattle.mdb_bus.specs.declared.fault.Blame.{Blame}
use Rattle.mdb_bus.specs.declared.fault.Rule.{Rule}
use Rattle.mdb_bus.specs.declared.scope.Scope.{Scope}
use Rattle.mdb_bus.specs.ActLists.{IsActList, Piece, events_of, piece_events}
use Rattle.mdb_bus.specs.ClosedPieces.{closed_pieces}
use Rattle.mdb_bus.specs.Pieces.{act_in}
use Rattle.mdb_bus.specs.LinkFaults.{IsLinkFault}
use Rattle.mdb_follow.specs.declared.follower.TheConstants.{ROWS_MAX}
use Rattle.mdb_page.specs.Answers.{number_of}
use Rattle.mdb_page.specs.Lines.{HasRead, IsLine, IsUnmarked, IsUnread, TellsNoRow, TellsRow}
use Rattle.mdb_page.specs.declared.acts.PageAct.{PageAct}
use Rattle.mdb_page.specs.declared.answer.PageTold.{PageTold}

-- the number of a device
abbrev pub device_number : Device → ℕ
device_number Changer = 1
device_number Bill = 2
device_number (Reader First) = 3
device_number (Reader Second) = 4

-- whether a message is an identification with options
abbrev pub has_options : ReaderMsg → Bool
has_options (PeripheralIdWithOptions options) = true
has_options _ = false

-- the number of how the messages of a reader's reply are read: 2 for a long reading, and 1 more
-- where identifications have options. Other replies have 0: their bytes are the same messages in
-- each reading
abbrev pub reading_number : Reply → ℕ
reading_number (replies.Reader list) =
    (if list_any has_long list.messages then 2 else 0)
    + (if list_any has_options list.messages then 1 else 0)
reading_number reply = 0

-- An entry shows the number of a kind, that of a device, the bytes of a block, the number of the
-- reading that says which messages these are, and how long a break was.
pub record Shows (entry : PageAct) (kind device : ℕ) (block : List ℕ) (reading break : ℕ)
    : Type 0 where
  pub same_kind : entry.kind ≡ kind
  pub same_device : entry.device ≡ device
  pub count : entry.count ≡ length block
  pub bytes : take entry.count entry.bytes ≡ block
  pub read : entry.reading ≡ reading
  pub long : entry.length ≡ break

-- An entry shows that a command was answered by a byte.
abbrev pub ShowsAnswer : PageAct → ℕ → Command → Type 0
ShowsAnswer entry kind command = Shows entry kind (device_number (device_of command)) [] 0 0

-- An entry shows a command, or a reply to it.
abbrev pub ShowsCommand : PageAct → ℕ → Command → Type 0
ShowsCommand entry kind command =
    Shows entry kind (device_number (device_of command)) (block_of (command_bytes command)) 0 0

abbrev pub ShowsReply : PageAct → ℕ → Command → Reply → Type 0
ShowsReply entry kind command reply =
    Shows entry kind (device_number (device_of command)) (block_of (reply_bytes reply))
    (reading_number reply) 0

-- An entry shows what was done, or that no act came of some words. A block has its sum at its end.
abbrev pub ShowsAct : PageAct → Option Act → Type 0
ShowsAct entry (Some (acts.Ask command)) = ShowsCommand entry 0 command
ShowsAct entry (Some (acts.Ack command)) = ShowsAnswer entry 1 command
ShowsAct entry (Some (acts.Nak command)) = ShowsAnswer entry 2 command
ShowsAct entry (Some (acts.Reply command reply)) = ShowsReply entry 3 command reply
ShowsAct entry (Some (acts.VmcAck command reply)) = ShowsAnswer entry 4 command
ShowsAct entry (Some (acts.VmcNak command reply)) = ShowsAnswer entry 5 command
ShowsAct entry (Some (acts.VmcRet command reply)) = ShowsAnswer entry 6 command
ShowsAct entry (Some (acts.Repeat command reply)) = ShowsReply entry 7 command reply
ShowsAct entry (Some acts.Foreign) = Shows entry 8 0 [] 0 0
ShowsAct entry (Some (acts.Break length)) = Shows entry 9 0 [] 0 length
ShowsAct entry None = Shows entry 10 0 [] 0 0

-- The rows of events that have so many rows before them: the number of the first and of the last,
-- and when these two started.
pub record HasRows (before : ℕ) (events : List Event) (first last start end : ℕ) : Type 0 where
  pub from : first ≡ before + 1
  pub to : last ≡ before + length events
  pub began : (others : List ℕ) × (map start_of events ≡ start ∷ others)
  pub ended : (others : List ℕ) × (map start_of events ≡ others ++ end ∷ [])

-- An entry is of the piece that has so many pieces before it.
pub record IsOfPiece (pieces : List Piece) (count : ℕ) (entry : PageAct) : Type 0 where
  pub later : List Piece
  pub piece : Piece
  pub earlier : List Piece
  pub are : pieces ≡ later ++ piece ∷ earlier
  pub number : length earlier ≡ count
  pub rows : HasRows (length (events_of earlier)) (piece_events piece) entry.first entry.last
      entry.start entry.end
  pub shows : ShowsAct entry (act_in piece)

-- The place of the piece with so many before it, in an array with so much room: the first pieces
-- stay, and after them the others come round in a ring. An array that is short may not have it.
unfoldable pub place_in : ℕ → ℕ → ℕ → ℕ
place_in first room number =
    if nat_lt number first then number else first + (number - first) % (room - first)

-- The array keeps the first pieces, and of all others the last, as many as the ring has places.
abbrev pub IsKept : ℕ → ℕ → ℕ → ℕ → Type 0
IsKept first room all number = (number < first) ⊎ (all ≤ number + (room - first))

-- An array has the entries of the pieces that it keeps, each at its place. The places that had no
-- entry are as before.
pub record AreListed (pieces : List Piece) (first : ℕ) (before after : List PageAct)
    : Type 0 where
  pub room : length after ≡ length before
  pub put : (number : ℕ) (other : PageAct) → number < length pieces
      → IsKept first (length before) (length pieces) number
      → place_in first (length before) number < length before
      → IsOfPiece pieces number (get_or after (place_in first (length before) number) other)
  pub kept : (place : ℕ) (other : PageAct) → length pieces ≤ place
      → get_or after place other ≡ get_or before place other

-- The first line of a text, which has bytes. It would be the row after the rows of pieces.
pub record IsNext (text bare : List ℕ) (pieces : List Piece) (row : ℕ) : Type 0 where
  pub after : List ℕ
  pub line : IsLine text bare after
  pub some : bare ≢ []
  pub number : row ≡ length (events_of pieces) + 1

-- Why a reading of lines ended after the rows of pieces, where a text is left: the row and the
-- fault that are told, the answer, and the pieces that are listed.
pub data EndsSo (scope : Scope) (pieces : List Piece) (text : List ℕ) (row fault : ℕ)
    : ℕ → List Piece → Type 0 where
  -- All lines were read. A tail at their end is listed.
  whole : text ≡ [] → row ≡ length (events_of pieces) → row ≤ ROWS_MAX
      → EndsSo scope pieces text row fault 0 pieces
  -- The next row breaks a rule of the link. A tail before it isn't listed.
  broken : {bare : List ℕ} (event : Event) (rule : Rule) (blame : Blame)
      → IsNext text bare pieces row → row ≤ ROWS_MAX → TellsRow bare event
      → IsLinkFault scope pieces event rule blame
      → EndsSo scope pieces text row fault 1 (closed_pieces pieces)
  -- The next line tells no row.
  no_row : {bare : List ℕ} (why : RowFault) → IsNext text bare pieces row → row ≤ ROWS_MAX
      → TellsNoRow bare why → fault ≡ number_of why
      → EndsSo scope pieces text row fault 2 pieces
  -- There are as many rows as there may be, and one line more.
  too_long : {bare : List ℕ} → IsNext text bare pieces row → row ≡ ROWS_MAX + 1
      → EndsSo scope pieces text row fault 3 pieces
  -- The next line has a quote, or a CR that doesn't end it.
  unread : {bare : List ℕ} → IsNext text bare pieces row → row ≤ ROWS_MAX → IsUnread bare
      → EndsSo scope pieces text row fault 4 pieces

-- The first lines of a text are rows that have an act list, and the reading ended after them.
pub record IsReading (scope : Scope) (lines rest : List ℕ) (row fault answer : ℕ)
    (listed : List Piece) : Type 0 where
  pub rows : List Event
  pub read : HasRead lines rows rest
  pub pieces : List Piece
  pub act_list : IsActList scope pieces rows
  pub ends : EndsSo scope pieces rest row fault answer listed

-- What is answered, told and listed of a text.
pub record IsListing (scope : Scope) (text : List ℕ) (first : ℕ) (before after : List PageAct)
    (told : PageTold) (answer : ℕ) : Type 0 where
  pub lines : List ℕ
  pub unmarked : IsUnmarked text lines
  pub rest : List ℕ
  pub offset : told.offset + length rest ≡ length text
  pub listed : List Piece
  pub reading : IsReading scope lines rest told.row told.fault answer listed
  pub count : told.acts ≡ length listed
  pub entries : AreListed listed first before after
