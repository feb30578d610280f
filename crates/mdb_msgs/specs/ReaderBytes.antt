-- Bytes taken for a reader's answer, message after message (MDB/ICP 4.3, cashless device): what a
-- `ReaderList`, which keeps its bytes, stands for.
use Rattle.std.specs.Prelude.{◌≡◌, ℕ, zero, suc, ◌+◌, ◌*◌, ◌==◌, if◌then◌else◌, Bool, true, false, List, [], ◌∷◌, ◌++◌, length, slice_index, take, drop, replicate}
use Rattle.mdb_msgs.specs.declared.reading.Ids.{Ids}
use Rattle.mdb_msgs.specs.declared.reading.Reading.{Reading}
use Rattle.mdb_msgs.specs.declared.reply.reader.ReaderMsg.{ReaderMsg}
use Rattle.mdb_msgs.specs.declared.reply.reader.ReaderMsg.TheVariants.{JustReset, Config, Display, BeginSession, BeginSessionLong, CancelRequest, VendApproved, VendDenied, EndSession, Cancelled, PeripheralId, PeripheralIdWithOptions, Malfunction, OutOfSequence, OutOfSequenceIn, TimeAsked}
use Rattle.mdb_msgs.specs.Reader.{ReaderMessages, head_bytes, is_display, is_id, reading_of, reader_list_bytes, IsReaderList}
use Rattle.mdb_msgs.specs.Readings.{takes_options}
use Rattle.mdb_msgs.specs.TwoBytes.{four_bytes}

-- the number whose two bytes stand at an index
unfoldable pub number_at : List ℕ → ℕ → ℕ
number_at bytes i = 256 * slice_index bytes i + slice_index bytes (i + 1)

-- the number whose four bytes stand at an index
unfoldable pub long_number_at : List ℕ → ℕ → ℕ
long_number_at bytes i = 65536 * number_at bytes i + number_at bytes (i + 2)

-- the message 03 that bytes begin with
abbrev pub front_session : Bool → List ℕ → ReaderMsg
front_session true bytes =
    BeginSessionLong (number_at bytes 1) (long_number_at bytes 3) (slice_index bytes 7)
    (number_at bytes 8)
front_session false bytes = BeginSession (number_at bytes 1)

-- the message 09 that bytes begin with
abbrev pub front_id : Ids → List ℕ → ReaderMsg
front_id ids bytes =
    if takes_options ids (drop 30 bytes) then PeripheralIdWithOptions (long_number_at bytes 30)
    else PeripheralId

-- the message 0B that goes on so after its first byte
abbrev pub out_of : Bool → List ℕ → ReaderMsg
out_of true (status ∷ rest) = OutOfSequenceIn status
out_of long further = OutOfSequence

-- the message that bytes begin with in a reading, but for its text
unfoldable pub front_message : Reading → List ℕ → ReaderMsg
front_message reading bytes =
    let first = slice_index bytes 0 in
    if first == 0 then JustReset
    else (if first == 1 then Config (slice_index bytes 1) (number_at bytes 2)
    (slice_index bytes 4) (slice_index bytes 5) (slice_index bytes 6) (slice_index bytes 7)
    else (if first == 2 then Display (slice_index bytes 1)
    else (if first == 3 then front_session reading.is_long bytes
    else (if first == 4 then CancelRequest
    else (if first == 5 then VendApproved (number_at bytes 1)
    else (if first == 6 then VendDenied
    else (if first == 7 then EndSession
    else (if first == 8 then Cancelled
    else (if first == 9 then front_id reading.ids bytes
    else (if first == 10 then Malfunction (slice_index bytes 1)
    else (if first == 17 then TimeAsked
    else out_of reading.is_long (drop 1 bytes))))))))))))

-- its text, of the bytes after its others: an identification takes 29, or 33 with its options, and
-- a display request all
abbrev pub front_text : ReaderMsg → List ℕ → List ℕ
front_text PeripheralId further = take 29 further
front_text (PeripheralIdWithOptions options) further = take 33 further
front_text (Display time) further = further
front_text _ further = []

-- no message
abbrev pub no_messages : ReaderMessages
no_messages = record { messages = []; id = replicate 29 0; text = [] }

-- a message with its text before a list
abbrev pub before_messages : ReaderMsg → List ℕ → ReaderMessages → ReaderMessages
before_messages message text list =
    record {
      messages = message ∷ list.messages;
      id = if is_id message then take 29 text else list.id;
      text = if is_display message then text else list.text;
    }

-- the messages that bytes begin with, at most as many as `fuel`
unfoldable pub messages_in : Reading → (fuel : ℕ) → List ℕ → ReaderMessages
messages_in reading zero bytes = no_messages
messages_in reading (suc fuel) [] = no_messages
messages_in reading (suc fuel) (first ∷ further) =
    let bytes = first ∷ further in
    let message = front_message reading bytes in
    let head = head_bytes message in
    let text = front_text message (drop (length head) bytes) in
    before_messages message text (messages_in reading fuel (drop (length (head ++ text)) bytes))

-- the messages that bytes are in a reading: a message has one byte at least
unfoldable pub messages_of : Reading → List ℕ → ReaderMessages
messages_of reading bytes = messages_in reading (length bytes) bytes

-- the bytes are those of a list, and the reading is that of the list
pub record AreMessages (reading : Reading) (bytes : List ℕ) : Type 0 where
  pub is_list : IsReaderList (messages_of reading bytes)
  pub spelled : reader_list_bytes (messages_of reading bytes) ≡ bytes
  pub own : reading_of (messages_of reading bytes).messages ≡ reading

-- the options of an identification, which stand after its text of 29 bytes
abbrev pub foot_bytes : ReaderMsg → List ℕ
foot_bytes (PeripheralIdWithOptions options) = four_bytes options
foot_bytes _ = []
