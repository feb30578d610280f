-- One step of reading a reader's answer: a message, its text, and the bytes after it. What a value
-- of `ReaderIter` holds is told by `StandAsMessages`; the rest is cited by private functions.
use Rattle.std.specs.Prelude.{◌≡◌, ℕ, ◌<◌, List, [], ◌∷◌, ◌++◌, length, take, ◌≤◌, true}
use Rattle.mdb_msgs.specs.declared.reading.Reading.{Reading}
use Rattle.mdb_msgs.specs.declared.reply.reader.ReaderMsg.{ReaderMsg}
use Rattle.mdb_msgs.specs.declared.reply.reader.ReaderMsg.TheVariants.{Display, PeripheralId, PeripheralIdWithOptions}
use Rattle.mdb_msgs.specs.Reader.{ReaderMessages, reader_list_bytes, is_id, AreReaderMsgs, IsTextOf}
use Rattle.mdb_msgs.specs.ReaderBytes.{before_messages, messages_of}

-- the list with a message more, and with its text
abbrev pub with_message : ReaderMessages → ReaderMsg → List ℕ → ReaderMessages
with_message list PeripheralId text =
    record list { messages = list.messages ++ PeripheralId ∷ []; id = text }
with_message list (PeripheralIdWithOptions options) text =
    record list {
      messages = list.messages ++ PeripheralIdWithOptions options ∷ [];
      id = take 29
          text;
    }
with_message list (Display time) text =
    record list { messages = list.messages ++ Display time ∷ []; text = text }
with_message list message text = record list { messages = list.messages ++ message ∷ [] }

-- bytes are messages of a reading, each with its text
pub record StandAsMessages (reading : Reading) (bytes : List ℕ) : Type 0 where
  pub list : ReaderMessages
  pub stand : AreReaderMsgs reading list []
  pub spelled : bytes ≡ reader_list_bytes list

-- of bytes that are messages the first message, its text, and the bytes after it
pub record IsNextMessage (reading : Reading) (bytes : List ℕ) (message : ReaderMsg)
    (text further : List ℕ) : Type 0 where
  pub before : messages_of reading bytes ≡ before_messages message text
      (messages_of reading further)
  pub is_text : IsTextOf reading message text further
  pub stand : StandAsMessages reading further
  pub shorter : length further < length bytes
  pub long : is_id message ≡ true → 29 ≤ length text
