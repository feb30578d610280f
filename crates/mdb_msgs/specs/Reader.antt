-- The messages of a reader's answer, byte by byte (MDB/ICP 4.3, cashless device).
use Rattle.std.specs.Prelude.{◌≡◌, ◌≢◌, ℕ, ◌/◌, ◌==◌, ◌<◌, ◌≤◌, ◌⊎◌, if◌then◌else◌, Bool, true, false, nat_le, List, [], ◌∷◌, ◌++◌, length, drop, replicate}
use Rattle.std.specs.List.{flat_map, list_any}
use Rattle.mdb_msgs.specs.declared.fault.MsgFault.{MsgFault}
use Rattle.mdb_msgs.specs.declared.fault.MsgFault.TheVariants.{Message, Profile}
use Rattle.mdb_msgs.specs.declared.reading.Ids.{Ids}
use Rattle.mdb_msgs.specs.declared.reading.Ids.TheVariants.{Bare, ByNext, Full}
use Rattle.mdb_msgs.specs.declared.reading.Reading.{Reading}
use Rattle.mdb_msgs.specs.declared.reply.reader.ReaderMsg.{ReaderMsg}
use Rattle.mdb_msgs.specs.declared.reply.reader.ReaderMsg.TheVariants.{JustReset, Config, Display, BeginSession, BeginSessionLong, CancelRequest, VendApproved, VendDenied, EndSession, Cancelled, PeripheralId, PeripheralIdWithOptions, Malfunction, OutOfSequence, OutOfSequenceIn, TimeAsked}
use Rattle.mdb_msgs.specs.Lists.{Stand, StopsBefore}
use Rattle.mdb_msgs.specs.Readings.{allows, takes_options}
use Rattle.mdb_msgs.specs.TwoBytes.{two_bytes, four_bytes}

-- a reader's answer: its messages in order, and beside them the two long texts, of which a block
-- holds at most one each: the bytes of the identification, and the text of the display request
pub record ReaderMessages : Type 0 where
  pub messages : List ReaderMsg
  pub id : List ℕ
  pub text : List ℕ

-- the bytes of a message, but for its text
abbrev pub head_bytes : ReaderMsg → List ℕ
head_bytes JustReset = 0 ∷ []
head_bytes (Config level code scale decimals response options) =
    1 ∷ level ∷ two_bytes code ++ (scale ∷ decimals ∷ response ∷ options ∷ [])
head_bytes (Display time) = 2 ∷ time ∷ []
head_bytes (BeginSession funds) = 3 ∷ two_bytes funds
head_bytes (BeginSessionLong funds media kind details) =
    3 ∷ two_bytes funds ++ four_bytes media ++ (kind ∷ two_bytes details)
head_bytes CancelRequest = 4 ∷ []
head_bytes (VendApproved amount) = 5 ∷ two_bytes amount
head_bytes VendDenied = 6 ∷ []
head_bytes EndSession = 7 ∷ []
head_bytes Cancelled = 8 ∷ []
head_bytes PeripheralId = 9 ∷ []
head_bytes (PeripheralIdWithOptions options) = 9 ∷ []
head_bytes (Malfunction code) = 10 ∷ code ∷ []
head_bytes OutOfSequence = 11 ∷ []
head_bytes (OutOfSequenceIn status) = 11 ∷ status ∷ []
head_bytes TimeAsked = 17 ∷ []

-- whether a message is a display request, or an identification
abbrev pub is_display : ReaderMsg → Bool
is_display (Display time) = true
is_display _ = false

abbrev pub is_id : ReaderMsg → Bool
is_id PeripheralId = true
is_id (PeripheralIdWithOptions options) = true
is_id _ = false

-- whether a message tells of a session or a sale, and so may stand in answers to POLL and the five
-- commands of a session alone by the base profile: 12 and 13 00 to 13 04, or 62 and 63 00 to 63 04
-- (this profile)
abbrev pub is_kept : ReaderMsg → Bool
is_kept (BeginSession funds) = true
is_kept (BeginSessionLong funds media kind details) = true
is_kept (VendApproved amount) = true
is_kept VendDenied = true
is_kept EndSession = true
is_kept _ = false

-- whether a message is one of feature levels 2 and 3 alone
abbrev pub has_long : ReaderMsg → Bool
has_long (BeginSessionLong funds media kind details) = true
has_long (OutOfSequenceIn status) = true
has_long TimeAsked = true
has_long _ = false

-- the least that a message asks of how identifications are read, and the least of two
abbrev pub ids_of : ReaderMsg → Ids
ids_of (PeripheralIdWithOptions options) = if options / 65536 / 256 == 0 then ByNext else Full
ids_of _ = Bare

abbrev pub wider : Ids → Ids → Ids
wider Full other = Full
wider ByNext Full = Full
wider ByNext other = ByNext
wider Bare other = other

abbrev pub own_ids : List ReaderMsg → Ids
own_ids [] = Bare
own_ids (message ∷ messages) = wider (ids_of message) (own_ids messages)

-- the reading that messages are kept in: the least that has them all
abbrev pub reading_of : List ReaderMsg → Reading
reading_of messages =
    record { is_long = list_any has_long messages; ids = own_ids messages }

-- whether a message tells of a feature level of `least` or more (Z2 of a config message)
abbrev pub tells_level : ℕ → ReaderMsg → Bool
tells_level least (Config level code scale decimals response options) = nat_le least level
tells_level least _ = false

-- the text of a message, where the list's identification and display text are these
abbrev pub text_of : List ℕ → List ℕ → ReaderMsg → List ℕ
text_of id text PeripheralId = id
text_of id text (PeripheralIdWithOptions options) = id ++ four_bytes options
text_of id text (Display time) = text
text_of id text _ = []

-- the bytes of a message
abbrev pub reader_msg_bytes : List ℕ → List ℕ → ReaderMsg → List ℕ
reader_msg_bytes id text message = head_bytes message ++ text_of id text message

-- the bytes of a list: its messages put end to end
abbrev pub reader_list_bytes : ReaderMessages → List ℕ
reader_list_bytes list = flat_map (reader_msg_bytes list.id list.text) list.messages

-- a message may have this text, and these bytes after it, in a reading: an identification has 29
-- bytes, or 33 with its options, where the reading takes them; a display request has at most 32 and
-- is last (this profile). In a long reading the message 03 is the longer one, and 0B has a status
-- where a byte is left
abbrev pub IsTextOf : Reading → ReaderMsg → List ℕ → List ℕ → Type 0
IsTextOf reading PeripheralId text rest =
    (length text ≡ 29) × (takes_options reading.ids rest ≡ false)
IsTextOf reading (PeripheralIdWithOptions options) text rest =
    (length text ≡ 33) × (drop 29 text ≡ four_bytes options)
    × (allows reading.ids (options / 65536 / 256) ≡ true)
IsTextOf reading (Display time) text rest = (length text ≤ 32) × (rest ≡ [])
IsTextOf reading (BeginSession funds) text rest = (text ≡ []) × (reading.is_long ≡ false)
IsTextOf reading (BeginSessionLong funds media kind details) text rest =
    (text ≡ []) × (reading.is_long ≡ true)
IsTextOf reading OutOfSequence text rest =
    (text ≡ []) × ((reading.is_long ≡ false) ⊎ (rest ≡ []))
IsTextOf reading (OutOfSequenceIn status) text rest = (text ≡ []) × (reading.is_long ≡ true)
IsTextOf reading TimeAsked text rest = (text ≡ []) × (reading.is_long ≡ true)
IsTextOf reading _ text rest = text ≡ []

-- a message may stand before these bytes, where the identification and the display text are these
abbrev pub IsReaderMsg : Reading → List ℕ → List ℕ → ReaderMsg → List ℕ → Type 0
IsReaderMsg reading id text message rest = IsTextOf reading message (text_of id text message) rest

-- in a reading each message of a list may stand before what comes after it: the further messages,
-- then `tail`
abbrev pub AreReaderMsgs : Reading → ReaderMessages → List ℕ → Type 0
AreReaderMsgs reading list tail =
    Stand (reader_msg_bytes list.id list.text) (IsReaderMsg reading list.id list.text) list.messages
    tail

-- its messages may stand so in one reading, with their texts, which are blank where no message has
-- them
pub record IsReaderList (list : ReaderMessages) : Type 0 where
  pub stand : AreReaderMsgs (reading_of list.messages) list []
  pub no_id : list_any is_id list.messages ≡ false → list.id ≡ replicate 29 0
  pub no_text : list_any is_display list.messages ≡ false → list.text ≡ []

-- how many bytes the message 03 has after its first
abbrev pub session_bytes : Reading → ℕ
session_bytes reading = if reading.is_long then 9 else 2

-- in a reading no message stands at the front of these bytes: they are too few for it, or too many
-- for a display request, which takes them all; from 0C on the messages are left out of this
-- profile, but for 11 in a long reading
abbrev pub NoReaderMsg : Reading → List ℕ → MsgFault → Type 0
NoReaderMsg reading (first ∷ further) Message =
    ((first ≡ 1) × (length further < 7))
    ⊎ (((first ≡ 2) × ((further ≡ []) ⊎ (33 < length further)))
    ⊎ (((first ≡ 3) × (length further < session_bytes reading))
    ⊎ (((first ≡ 5) × (length further < 2))
    ⊎ (((first ≡ 9) × (length further < 29))
    ⊎ ((first ≡ 10) × (further ≡ []))))))
NoReaderMsg reading (first ∷ further) Profile =
    (12 ≤ first) × ((reading.is_long ≡ false) ⊎ (first ≢ 17))
NoReaderMsg reading _ _ = ⊥

-- in front stand messages, and where they end no message stands, for this reason
abbrev pub ReaderStopsAt : Reading → List ℕ → MsgFault → Type 0
ReaderStopsAt reading bytes fault =
    (id : List ℕ)
    × StopsBefore (reader_msg_bytes id []) (IsReaderMsg reading id []) (NoReaderMsg reading) bytes
    fault
