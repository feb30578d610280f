-- Which rule of the link a row breaks, and who is to blame (this profile, by the format and timing
-- of MDB/ICP 4.3).
use Rattle.std.specs.Prelude.{Bool, ◌≡◌, ◌≢◌, ◌+◌, ◌%◌, ◌<◌, ◌≤◌, ◌⊎◌, ℕ, List, [], ◌∷◌, ◌++◌, length, sum, All, Option, Some, None}
use Rattle.mdb_words.specs.declared.limits.TheConstants.{WORD_GAP_MIN, BLOCK_GAP_MAX}
use Rattle.mdb_words.specs.declared.event.Event.{Event}
use Rattle.mdb_words.specs.declared.event.Event.TheVariants.{Word, Break}
use Rattle.mdb_words.specs.declared.word.Line.TheVariants.{Controller, Peripheral}
use Rattle.mdb_words.specs.Event.{start_of, end_of}
use Rattle.mdb_words.specs.Answer.{answer_word}
use Rattle.mdb_words.specs.declared.answer.Answer.{Answer}
use Rattle.mdb_words.specs.declared.answer.Answer.TheVariants as answers
use Rattle.mdb_msgs.specs.declared.command.Command.{Command}
use Rattle.mdb_msgs.specs.declared.command.Device.{Device}
use Rattle.mdb_msgs.specs.declared.command.Device.TheVariants as device
use Rattle.mdb_msgs.specs.declared.command.ReaderUnit.TheVariants.{First, Second}
use Rattle.mdb_msgs.specs.declared.fault.MsgFault.TheVariants as reading
use Rattle.mdb_msgs.specs.declared.need.Need.TheVariants as need
use Rattle.mdb_msgs.specs.declared.reply.Reply.{Reply}
use Rattle.mdb_msgs.specs.Answers.{HasDataAnswer, MayHaveData}
use Rattle.mdb_msgs.specs.Commands.{EnablesMore, device_of}
use Rattle.mdb_msgs.specs.Replies.{reply_bytes}
use Rattle.mdb_bus.specs.declared.act.Act.TheVariants as acts
use Rattle.mdb_bus.specs.declared.fault.Blame.{Blame}
use Rattle.mdb_bus.specs.declared.fault.Blame.TheVariants as blame
use Rattle.mdb_bus.specs.declared.fault.LinkFault.{LinkFault}
use Rattle.mdb_bus.specs.declared.fault.Rule.{Rule}
use Rattle.mdb_bus.specs.declared.fault.Rule.TheVariants as rule
use Rattle.mdb_bus.specs.declared.levels.Levels.{Levels}
use Rattle.mdb_bus.specs.declared.scope.Beginning.{Beginning}
use Rattle.mdb_bus.specs.declared.scope.Profile.{Profile}
use Rattle.mdb_bus.specs.declared.scope.Scope.{Scope}
use Rattle.mdb_bus.specs.Acts.{IsReply, reply_words}
use Rattle.mdb_bus.specs.Formats.{HasFault, IsReadAs, format_for}
use Rattle.mdb_bus.specs.Scopes.{Asks, levels_before, needed_in, profile_of}
use Rattle.mdb_bus.specs.ExtendedHaste.{counted_in, haste_of}
use Rattle.mdb_bus.specs.Times.{answer_most, block_most, block_rest, break_least, rest_after}
use Rattle.mdb_bus.specs.ExtendedMoney.{Wide, counted_as, wide_of}
use Rattle.mdb_bus.specs.ActLists.{Piece, Whole, Position, Quiet, InAsk, Asked, InReply, Replied, Returned, InRepeat, InForeign, IsInProfile, events_of, last_of, levels_of, position_of}

-- What the rows so far leave for the next one.
pub record Situation : Type 0 where
  -- how the recording is taken
  pub scope : Scope
  -- where the bus is
  pub position : Position
  -- the last row
  pub last : Option Event
  -- the feature levels that controller and readers have last told each other
  pub levels : Levels

abbrev pub situation_of : Scope → List Piece → Situation
situation_of scope pieces = record {
  scope = scope;
  position = position_of scope pieces;
  last = last_of (events_of pieces);
  levels = levels_of (profile_of scope.begins) (levels_before scope) pieces;
}

-- the device of the last whole ask, unless a break or a foreign block came since
abbrev pub asked_device : List Piece → Option Device
asked_device [] = None
asked_device (Whole (acts.Ask command) events ∷ pieces) = Some (device_of command)
asked_device (Whole acts.Foreign events ∷ pieces) = None
asked_device (Whole (acts.Break length) events ∷ pieces) = None
asked_device (piece ∷ pieces) = asked_device pieces

-- the gap from the row before, if there is one, is less, more than so long
abbrev pub IsBefore : ℕ → Option Event → Event → Type 0
IsBefore least None to = ⊥
IsBefore least (Some from) to = start_of to < end_of from + least

abbrev pub IsAfter : ℕ → Option Event → Event → Type 0
IsAfter most None to = ⊥
IsAfter most (Some from) to = end_of from + most < start_of to

-- and where there is a limit
abbrev pub IsPast : Option ℕ → Option Event → Event → Type 0
IsPast None from to = ⊥
IsPast (Some most) from to = IsAfter most from to

-- Order: a row doesn't start after the row before it.
abbrev pub OutOfOrder : Option Event → Event → Type 0
OutOfOrder None to = ⊥
OutOfOrder (Some from) to = start_of to ≤ start_of from

-- Speaker: a side sends where the other one has the bus. The controller has to leave a peripheral's
-- block alone for as long as its next word comes in the base profile's time.
abbrev pub WrongSpeaker : Position → Option Event → Event → Type 0
WrongSpeaker Quiet from (Word at Peripheral word) = Unit {0}
WrongSpeaker (InAsk bytes) from (Word at Peripheral word) = Unit {0}
WrongSpeaker (Replied command reply) from (Word at Peripheral word) = Unit {0}
WrongSpeaker (InReply command bytes) from (Word at Controller word) =
    ¬ IsAfter BLOCK_GAP_MAX from (Word at Controller word)
WrongSpeaker (InRepeat command reply words) from (Word at Controller word) =
    ¬ IsAfter BLOCK_GAP_MAX from (Word at Controller word)
WrongSpeaker _ from _ = ⊥

-- Mode: a block of the controller begins with an unmarked word, or goes on with a marked one.
abbrev pub WrongMode : Position → Event → Type 0
WrongMode Quiet (Word at Controller word) = word < 256
WrongMode (Asked command) (Word at Controller word) = word < 256
WrongMode (Returned command reply) (Word at Controller word) = word < 256
WrongMode (InAsk bytes) (Word at Controller word) = 256 ≤ word
WrongMode _ _ = ⊥

-- Early: a row comes too soon. By the base profile a new block does, too, while an answer or a
-- repeat may still come.
abbrev pub TooEarly : Profile → Position → Option Event → Event → Type 0
TooEarly profile position from (Break at length) = IsBefore (rest_after from) from (Break at length)
TooEarly profile Quiet from to = IsBefore (block_rest Quiet profile from) from to
TooEarly profile InForeign from to = IsBefore (rest_after from) from to
TooEarly profile (Asked command) from (Word at Controller word) =
    IsBefore (block_rest (Asked command) profile from) from (Word at Controller word)
TooEarly profile (Replied command reply) from (Word at Controller word) =
    ((256 ≤ word)
    × IsBefore (block_rest (Replied command reply) profile from) from (Word at Controller word))
    ⊎ ((word < 256) × IsBefore WORD_GAP_MIN from (Word at Controller word))
TooEarly profile (Returned command reply) from (Word at Controller word) =
    IsBefore (block_rest (Returned command reply) profile from) from (Word at Controller word)
TooEarly profile position from to = IsBefore WORD_GAP_MIN from to

-- Late: an answer or a repeat begins after its time.
abbrev pub TooLate : Profile → Position → Option Event → Event → Type 0
TooLate profile (Asked command) from (Word at Peripheral word) =
    IsPast (answer_most profile) from (Word at Peripheral word)
TooLate profile (Replied command reply) from (Word at Controller word) =
    (word < 256) × IsPast (answer_most profile) from (Word at Controller word)
TooLate profile (Returned command reply) from (Word at Peripheral word) =
    IsPast (answer_most profile) from (Word at Peripheral word)
TooLate profile _ from _ = ⊥

-- Spacing: the words of a block are too far apart, or the controller's word finds a peripheral's
-- block left open.
abbrev pub TooFarApart : Profile → Position → Option Event → Event → Type 0
TooFarApart profile (InAsk bytes) from (Word at Controller word) =
    IsPast (block_most profile) from (Word at Controller word)
TooFarApart profile (InReply command bytes) from (Word at Peripheral word) =
    IsPast (block_most profile) from (Word at Peripheral word)
TooFarApart profile (InReply command bytes) from (Word at Controller word) =
    IsAfter BLOCK_GAP_MAX from (Word at Controller word)
TooFarApart profile (InRepeat command reply words) from (Word at Peripheral word) =
    IsPast (block_most profile) from (Word at Peripheral word)
TooFarApart profile (InRepeat command reply words) from (Word at Controller word) =
    IsAfter BLOCK_GAP_MAX from (Word at Controller word)
TooFarApart profile _ from _ = ⊥

-- Length: a reply's 36th word is unmarked, or the command isn't answered by so many data bytes.
abbrev pub WrongLength : Position → Event → Type 0
WrongLength (InReply command bytes) (Word at Peripheral word) =
    ((word < 256) × (35 ≤ length bytes)) ⊎ ((256 ≤ word) × ¬ HasDataAnswer command (length bytes))
WrongLength _ _ = ⊥

-- Sum: a block's last byte isn't the sum of the bytes before it.
abbrev pub WrongSum : Scope → Position → Event → Type 0
WrongSum scope (InAsk bytes) (Word at Controller word) =
    (needed_in scope bytes ≡ need.Exactly (length bytes + 1)) × (word ≢ sum bytes % 256)
WrongSum scope (InReply command bytes) (Word at Peripheral word) =
    (256 ≤ word) × (word ≢ 256 + sum bytes % 256)
WrongSum scope _ _ = ⊥

-- Break: a break is too short.
abbrev pub TooShort : Profile → Event → Type 0
TooShort profile (Break at length) = length < break_least profile
TooShort profile (Word at line word) = ⊥

-- a word is no answer of a peripheral: marked, and neither its ACK nor its NAK
abbrev pub IsNoAnswer : ℕ → Type 0
IsNoAnswer word =
    (256 ≤ word) × (word ≢ answer_word Peripheral answers.Ack)
    × (word ≢ answer_word Peripheral answers.Nak)

-- a word is no answer of the controller: unmarked, and neither its ACK, its NAK nor its RET
abbrev pub IsNoVmcAnswer : ℕ → Type 0
IsNoVmcAnswer word = (word < 256) × ((answer : Answer) → word ≢ answer_word Controller answer)

-- Answer: an answer that the command cannot have, or a controller's answer that no reply can have.
abbrev pub WrongAnswer : Beginning → Levels → Position → Event → Type 0
WrongAnswer begins levels (Asked command) (Word at Peripheral word) =
    IsNoAnswer word ⊎ ((word < 256) × ¬ MayHaveData command)
WrongAnswer begins levels (InReply command bytes) (Word at Peripheral word) =
    (256 ≤ word) × HasFault (format_for begins levels command) command bytes reading.Answer
WrongAnswer begins levels (Replied command reply) (Word at Controller word) = IsNoVmcAnswer word
WrongAnswer begins levels _ _ = ⊥

-- Message: the leftmost message of a reply that can't be taken can't be read.
abbrev pub HasBadMessage : Beginning → Levels → Position → Event → Type 0
HasBadMessage begins levels (InReply command bytes) (Word at Peripheral word) =
    (256 ≤ word) × HasFault (format_for begins levels command) command bytes reading.Message
HasBadMessage begins levels _ _ = ⊥

-- a word comes next in words of which some were said
abbrev pub IsNext : List ℕ → List ℕ → ℕ → Type 0
IsNext words said word = (rest : List ℕ) × (said ++ word ∷ rest ≡ words)

-- Same: a word of a repeat differs from the reply's word.
abbrev pub IsChanged : Position → Event → Type 0
IsChanged (Returned command reply) (Word at Peripheral word) = ¬ IsNext (reply_words reply) [] word
IsChanged (InRepeat command reply words) (Word at Peripheral word) =
    ¬ IsNext (reply_words reply) words word
IsChanged _ _ = ⊥

-- the marked word of a block that this profile leaves out
abbrev pub IsOutside : Scope → ℕ → Type 0
IsOutside scope word = (byte : ℕ) × (word ≡ 256 + byte)
    × (needed_in scope (byte ∷ []) ≡ need.Outside)

-- the reply that these bytes are says what isn't followed
abbrev pub LeavesProfile : Beginning → Command → List ℕ → Levels → Type 0
LeavesProfile begins command bytes levels =
    (reply : Reply) × IsReply command reply × (bytes ≡ reply_bytes reply)
    × IsReadAs (format_for begins levels command) command reply
    × ¬ IsInProfile (profile_of begins) levels command reply

-- a block is a command that asks for what isn't followed
abbrev pub AsksForMore : Scope → List ℕ → Type 0
AsksForMore scope block = (command : Command) × Asks scope command block × EnablesMore command

-- Profile: what this profile leaves out: commands, messages, and what commands and replies say.
abbrev pub IsBeyondProfile : Scope → Position → Levels → Event → Type 0
IsBeyondProfile scope (InAsk bytes) levels (Word at Controller word) =
    ((needed_in scope bytes ≡ need.More) × (needed_in scope (bytes ++ word ∷ []) ≡ need.Outside))
    ⊎ AsksForMore scope (bytes ++ word ∷ [])
IsBeyondProfile scope (InReply command bytes) levels (Word at Peripheral word) =
    (256 ≤ word)
    × (HasFault (format_for scope.begins levels command) command bytes reading.Profile
    ⊎ LeavesProfile scope.begins command bytes levels)
IsBeyondProfile scope (InReply command bytes) levels _ = ⊥
IsBeyondProfile scope (InRepeat command reply words) levels _ = ⊥
IsBeyondProfile scope position levels (Word at Controller word) = IsOutside scope word
IsBeyondProfile scope _ levels _ = ⊥

-- A row breaks a rule, each for itself; which of them counts their order decides. The rules of the
-- devices are none of the link.
abbrev pub RowBreaks : Situation → Event → Rule → Type 0
RowBreaks s row rule.Order = OutOfOrder s.last row
RowBreaks s row rule.Speaker = WrongSpeaker s.position s.last row
RowBreaks s row rule.Mode = WrongMode s.position row
RowBreaks s row rule.Early = TooEarly (profile_of s.scope.begins) s.position s.last row
RowBreaks s row rule.Late = TooLate (profile_of s.scope.begins) s.position s.last row
RowBreaks s row rule.Spacing = TooFarApart (profile_of s.scope.begins) s.position s.last row
RowBreaks s row rule.Length = WrongLength s.position row
RowBreaks s row rule.Sum = WrongSum s.scope s.position row
RowBreaks s row rule.Break = TooShort (profile_of s.scope.begins) row
RowBreaks s row rule.Answer = WrongAnswer s.scope.begins s.levels s.position row
RowBreaks s row rule.Message =
    HasBadMessage s.scope.begins s.levels s.position row
RowBreaks s row rule.Same = IsChanged s.position row
RowBreaks s row rule.Profile = IsBeyondProfile s.scope s.position s.levels row
RowBreaks s row rule.Changer = ⊥
RowBreaks s row rule.Bill = ⊥
RowBreaks s row rule.Cashless = ⊥

-- the rules in their order
abbrev pub order : List Rule
order =
    rule.Order ∷ rule.Speaker ∷ rule.Mode ∷ rule.Early ∷ rule.Late ∷ rule.Spacing ∷ rule.Length
    ∷ rule.Sum ∷ rule.Break ∷ rule.Answer ∷ rule.Message ∷ rule.Same ∷ rule.Profile ∷ rule.Changer
    ∷ rule.Bill ∷ rule.Cashless ∷ []

-- the first rule of the order that a row breaks: it breaks this one, and none of those before it
pub record IsFirstBroken (s : Situation) (row : Event) (broken : Rule) : Type 0 where
  pub before : List Rule
  pub after : List Rule
  pub stands : order ≡ before ++ broken ∷ after
  pub breaks : RowBreaks s row broken
  pub keeps : All (λ other. ¬ RowBreaks s row other) before

-- a device as the one to blame, and `other` where none was asked
abbrev pub blame_on : Option Device → Blame
blame_on None = blame.Other
blame_on (Some device.Changer) = blame.Changer
blame_on (Some device.Bill) = blame.Bill
blame_on (Some (device.Reader First)) = blame.Cashless
blame_on (Some (device.Reader Second)) = blame.Cashless2

-- who is to blame for a row of the controller
abbrev pub vmc_blame : Position → Option Device → Rule → Blame
vmc_blame (InReply command bytes) asked rule.Spacing = blame_on asked
vmc_blame (InRepeat command reply words) asked rule.Spacing = blame_on asked
vmc_blame position asked broken = blame.Controller

-- Who is to blame: whoever sent the row, a peripheral by the device that was asked. Where the
-- controller's word shows that a peripheral left its block open for too long, though, it is that
-- device.
abbrev pub blame_of : Position → Option Device → Event → Rule → Blame
blame_of position asked (Word at Peripheral word) broken = blame_on asked
blame_of position asked (Word at Controller word) broken = vmc_blame position asked broken
blame_of position asked (Break at length) broken = blame.Controller

-- the fault of a row at a position that breaks this rule first
abbrev pub fault_at : Position → Option Device → Wide → Bool → Event → Rule → LinkFault
fault_at position asked wide haste row first =
    let broken = counted_as first position wide in
    counted_in haste row (record { rule = broken; blame = blame_of position asked row broken })

-- and after pieces
abbrev pub fault_of : Scope → List Piece → Event → Rule → LinkFault
fault_of scope pieces =
    fault_at (position_of scope pieces) (asked_device pieces) (wide_of scope pieces)
    (haste_of scope pieces)

-- the fault of a row after pieces: what counts for the first rule that it breaks
pub record IsLinkFault (scope : Scope) (pieces : List Piece) (row : Event) (broken : Rule)
    (blamed : Blame) : Type 0 where
  pub first : Rule
  pub rule : IsFirstBroken (situation_of scope pieces) row first
  pub counts : broken ≡ (fault_of scope pieces row first).rule
  pub blame : blamed ≡ (fault_of scope pieces row first).blame
