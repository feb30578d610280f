-- Act lists: how a transcript divides into acts, and what may follow what (MDB/ICP 4.3, timing; the
-- numbers are this profile's). Lists of pieces are written newest first, lists of events oldest
-- first.
use Rattle.std.specs.Prelude.{◌≡◌, ◌≢◌, ◌<◌, ◌≤◌, ◌⊎◌, ℕ, Bool, true, false, List, [], ◌∷◌, ◌++◌, length, All, Option, Some, None}
use Rattle.std.specs.List.{list_any}
use Rattle.mdb_words.specs.declared.limits.TheConstants.{WORD_GAP_MIN}
use Rattle.mdb_words.specs.declared.event.Event.{Event}
use Rattle.mdb_words.specs.declared.word.Line.TheVariants.{Controller, Peripheral}
use Rattle.mdb_words.specs.Event.{AtLeast, AtMost}
use Rattle.mdb_words.specs.Block.{words_on}
use Rattle.mdb_msgs.specs.declared.command.Command.{Command}
use Rattle.mdb_msgs.specs.declared.command.Command.TheVariants as commands
use Rattle.mdb_msgs.specs.declared.command.ReaderCommand.TheVariants as readers
use Rattle.mdb_msgs.specs.declared.command.ReaderUnit.TheVariants.{First, Second}
use Rattle.mdb_msgs.specs.declared.reply.Reply.{Reply}
use Rattle.mdb_msgs.specs.declared.reply.Reply.TheVariants as replies
use Rattle.mdb_msgs.specs.Answers.{MayHaveData}
use Rattle.mdb_msgs.specs.Commands.{EnablesMore, IsByte}
use Rattle.mdb_msgs.specs.Reader.{tells_level}
use Rattle.mdb_bus.specs.declared.act.Act.{Act}
use Rattle.mdb_bus.specs.declared.act.Act.TheVariants as acts
use Rattle.mdb_bus.specs.declared.levels.Levels.{Levels}
use Rattle.mdb_bus.specs.declared.scope.Beginning.{Beginning}
use Rattle.mdb_bus.specs.declared.scope.Beginning.TheVariants.{PowerOn, Joined}
use Rattle.mdb_bus.specs.declared.scope.Profile.{Profile}
use Rattle.mdb_bus.specs.declared.scope.Profile.TheVariants.{Base, Extended}
use Rattle.mdb_bus.specs.declared.scope.Scope.{Scope}
use Rattle.mdb_bus.specs.Acts.{IsAct, IsBlockWord, IsForeignWord, Say, reply_words}
use Rattle.mdb_bus.specs.Formats.{IsReadAs, format_for, levels_for}
pub use Rattle.mdb_bus.specs.Positions.{Position, Quiet, InAsk, Asked, InReply, Replied, Returned, InRepeat, InForeign}
use Rattle.mdb_bus.specs.Scopes.{Asks, levels_before, profile_of}
use Rattle.mdb_bus.specs.Times.{answer_most, block_most, block_rest, rest_after}
use Rattle.mdb_bus.specs.ExtendedLevels.{levels_answered}

-- A piece of a transcript with its events: a whole act; or a tail, the words of an act that has
-- begun and not ended, with the bytes that they have.
pub data Piece : Type 0 where
  Whole : Act → List Event → Piece
  -- of an ask, or of a foreign EXPANSION: its first byte begins an ask too
  AskTail : List ℕ → List Event → Piece
  -- of a reply to a command
  ReplyTail : Command → List ℕ → List Event → Piece
  -- of a repeat of a reply
  RepeatTail : Command → Reply → List ℕ → List Event → Piece

-- the events of a piece
abbrev pub piece_events : Piece → List Event
piece_events (Whole act events) = events
piece_events (AskTail bytes events) = events
piece_events (ReplyTail command bytes events) = events
piece_events (RepeatTail command reply bytes events) = events

-- the gap from the row before, if there is one, is at least, at most so long; it counts from a
-- word's start and a break's end
abbrev pub NotBefore : ℕ → Option Event → Event → Type 0
NotBefore least None to = Unit {0}
NotBefore least (Some from) to = AtLeast least from to

abbrev pub NotAfter : ℕ → Option Event → Event → Type 0
NotAfter most None to = Unit {0}
NotAfter most (Some from) to = AtMost most from to

-- the gap is at most so long, where there is a limit
abbrev pub NotPast : Option ℕ → Option Event → Event → Type 0
NotPast None from to = Unit {0}
NotPast (Some most) from to = NotAfter most from to

-- a row comes at least, and at most, so long after the row before it
abbrev pub Within : ℕ → Option ℕ → Option Event → Event → Type 0
Within least most from to = NotBefore least from to × NotPast most from to

-- a word comes in time after the word before it in its block, an answer or a repeat after the block
-- that it answers
abbrev pub InBlockTime : Profile → Option Event → Event → Type 0
InBlockTime profile = Within WORD_GAP_MIN (block_most profile)

abbrev pub InAnswerTime : Profile → Option Event → Event → Type 0
InAnswerTime profile = Within WORD_GAP_MIN (answer_most profile)

-- the gaps between the words of one act
abbrev pub AreSpaced : Profile → List Event → Type 0
AreSpaced profile [] = Unit {0}
AreSpaced profile (event ∷ []) = Unit {0}
AreSpaced profile (event ∷ next ∷ events) =
    InBlockTime profile (Some event) next × AreSpaced profile (next ∷ events)

-- bytes that begin the block of a command to a device that is followed, and don't end it
pub record IsAskFront (scope : Scope) (bytes : List ℕ) : Type 0 where
  pub some : bytes ≢ []
  pub command : Command
  pub rest : List ℕ
  pub open_end : rest ≢ []
  pub spelled : Asks scope command (bytes ++ rest)

-- bytes that a reply to the command may begin with: what it says is judged at its marked word
pub record IsReplyFront (command : Command) (bytes : List ℕ) : Type 0 where
  pub allowed : MayHaveData command
  pub some : 1 ≤ length bytes
  pub few : length bytes ≤ 35
  pub in_range : All IsByte bytes

-- words that begin those of a reply, and don't end them
pub record IsRepeatFront (reply : Reply) (words : List ℕ) : Type 0 where
  pub some : words ≢ []
  pub rest : List ℕ
  pub open_end : rest ≢ []
  pub same : words ++ rest ≡ reply_words reply

-- the words of a piece are right by themselves
abbrev pub IsSaid : Scope → Piece → Type 0
IsSaid scope (Whole act events) = IsAct scope act events
IsSaid scope (AskTail bytes events) =
    IsAskFront scope bytes × Say Controller (words_on Controller bytes) events
IsSaid scope (ReplyTail command bytes events) =
    IsReplyFront command bytes × Say Peripheral bytes events
IsSaid scope (RepeatTail command reply words events) = IsRepeatFront reply words
    × Say Peripheral words events

-- a piece by itself: its words, and the gaps between them
pub record IsPiece (scope : Scope) (piece : Piece) : Type 0 where
  pub said : IsSaid scope piece
  pub spaced : AreSpaced (profile_of scope.begins) (piece_events piece)

-- what an act leaves open
abbrev pub left_open : Act → Position
left_open (acts.Ask command) = Asked command
left_open (acts.Ack command) = Quiet
left_open (acts.Nak command) = Quiet
left_open (acts.Reply command reply) = Replied command reply
left_open (acts.VmcAck command reply) = Quiet
left_open (acts.VmcNak command reply) = Quiet
left_open (acts.VmcRet command reply) = Returned command reply
left_open (acts.Repeat command reply) = Replied command reply
left_open acts.Foreign = InForeign
left_open (acts.Break length) = Quiet

-- what a piece leaves open, or has said
abbrev pub left_by : Piece → Position
left_by (Whole act events) = left_open act
left_by (AskTail bytes events) = InAsk bytes
left_by (ReplyTail command bytes events) = InReply command bytes
left_by (RepeatTail command reply words events) = InRepeat command reply words

-- Where the bus is as a recording begins: in mid-session in foreign traffic, so that its first rows
-- are foreign words, whatever they are, up to a marked word of the controller or a break.
abbrev pub first_position : Beginning → Position
first_position (PowerOn profile) = Quiet
first_position (Joined setups profile) = InForeign

-- where the bus is after pieces
abbrev pub position_of : Scope → List Piece → Position
position_of scope [] = first_position scope.begins
position_of scope (piece ∷ pieces) = left_by piece

-- a block of the controller may begin: an ask, or a foreign opening
abbrev pub BlockMayCome : Profile → Position → Option Event → Event → Type 0
BlockMayCome profile (InAsk bytes) from to = ⊥
BlockMayCome profile (InReply command bytes) from to = ⊥
BlockMayCome profile (InRepeat command reply words) from to = ⊥
BlockMayCome profile position from to = NotBefore (block_rest position profile from) from to

-- a peripheral's ACK, NAK or reply to a command may come
abbrev pub AnswerMayCome : Profile → Command → Position → Option Event → Event → Type 0
AnswerMayCome profile command position from to = (position ≡ Asked command)
    × InAnswerTime profile from to

-- the controller's ACK, NAK or RET to a reply may come
abbrev pub VmcAnswerMayCome : Profile → Command → Reply → Position → Option Event → Event → Type 0
VmcAnswerMayCome profile command reply position from to = (position ≡ Replied command reply)
    × InAnswerTime profile from to

-- a repeat of a reply may come
abbrev pub RepeatMayCome : Profile → Command → Reply → Position → Option Event → Event → Type 0
RepeatMayCome profile command reply position from to = (position ≡ Returned command reply)
    × InAnswerTime profile from to

-- a foreign act may come: a block where its first event is a marked word of the controller, and
-- else a further word
abbrev pub ForeignMayCome : Profile → Position → Option Event → Event → Type 0
ForeignMayCome profile position from to =
    (IsBlockWord to × BlockMayCome profile position from to)
    ⊎ (IsForeignWord to × (position ≡ InForeign) × NotBefore (rest_after from) from to)

-- a break may come: everywhere, in a tail too
abbrev pub BreakMayCome : Option Event → Event → Type 0
BreakMayCome from to = NotBefore (rest_after from) from to

-- What may come where the bus is, and how long after the row before it.
abbrev pub MayCome : Profile → Piece → Position → Option Event → Event → Type 0
MayCome profile (Whole (acts.Ask command) events) = BlockMayCome profile
MayCome profile (Whole (acts.Ack command) events) = AnswerMayCome profile command
MayCome profile (Whole (acts.Nak command) events) = AnswerMayCome profile command
MayCome profile (Whole (acts.Reply command reply) events) = AnswerMayCome profile command
MayCome profile (Whole (acts.VmcAck command reply) events) = VmcAnswerMayCome profile command reply
MayCome profile (Whole (acts.VmcNak command reply) events) = VmcAnswerMayCome profile command reply
MayCome profile (Whole (acts.VmcRet command reply) events) = VmcAnswerMayCome profile command reply
MayCome profile (Whole (acts.Repeat command reply) events) = RepeatMayCome profile command reply
MayCome profile (Whole acts.Foreign events) = ForeignMayCome profile
MayCome profile (Whole (acts.Break length) events) = λ position. BreakMayCome
MayCome profile (AskTail bytes events) = BlockMayCome profile
MayCome profile (ReplyTail command bytes events) = AnswerMayCome profile command
MayCome profile (RepeatTail command reply words events) = RepeatMayCome profile command reply

-- the last row
abbrev pub last_of : List Event → Option Event
last_of [] = None
last_of (event ∷ []) = Some event
last_of (event ∷ next ∷ events) = last_of (next ∷ events)

-- the events of pieces
abbrev pub events_of : List Piece → List Event
events_of [] = []
events_of (piece ∷ pieces) = events_of pieces ++ piece_events piece

-- what the controller has last told each reader of its feature level (Y2), once an ask is whole
abbrev pub levels_after : Command → Levels → Levels
levels_after (commands.Reader First (readers.SetupConfig level columns rows display)) levels =
    record levels { first = record levels.first { asked = Some level } }
levels_after (commands.Reader Second (readers.SetupConfig level columns rows display)) levels =
    record levels { second = record levels.second { asked = Some level } }
levels_after _ levels = levels

-- and by a profile: the base profile doesn't ask for it
abbrev pub levels_told : Profile → Command → Reply → Levels → Levels
levels_told Base command reply levels = levels
levels_told Extended command reply levels = levels_answered command reply levels

-- both after an act
abbrev pub levels_by : Profile → Act → Levels → Levels
levels_by profile (acts.Ask command) levels = levels_after command levels
levels_by profile (acts.Reply command reply) levels = levels_told profile command reply levels
levels_by profile _ levels = levels

-- after pieces: of each reader the last that was told, and what was told before the first piece
-- where nothing was
abbrev pub levels_of : Profile → Levels → List Piece → Levels
levels_of profile before [] = before
levels_of profile before (Whole act events ∷ pieces) =
    levels_by profile act (levels_of profile before pieces)
levels_of profile before (piece ∷ pieces) = levels_of profile before pieces

-- whether a message of a reply tells of a feature level of 2 or more
abbrev pub tells_high : Reply → Bool
tells_high (replies.Reader list) = list_any (tells_level 2) list.messages
tells_high _ = false

-- no level is known, or one below 2
abbrev pub IsLow : Option ℕ → Type 0
IsLow None = Unit {0}
IsLow (Some level) = level < 2

-- What a reply to a command says is followed. By the base profile: where the controller has last
-- told a reader a level of 2 or more, no reply of that reader tells 2 or more. By the extended one
-- all that is read is followed.
abbrev pub IsInProfile : Profile → Levels → Command → Reply → Type 0
IsInProfile Base levels command reply =
    tells_high reply ≡ true → IsLow (levels_for command levels).asked
IsInProfile Extended levels command reply = Unit {0}

-- a reply fits the levels told before it: it is read so, and what it says is followed
abbrev pub ReplyFits : Beginning → Levels → Command → Reply → Type 0
ReplyFits begins levels command reply =
    IsReadAs (format_for begins levels command) command reply
    × IsInProfile (profile_of begins) levels command reply

-- a piece fits the levels told before it; an ask doesn't ask for what isn't followed
abbrev pub PieceFits : Beginning → Levels → Piece → Type 0
PieceFits begins levels (Whole (acts.Ask command) events) = ¬ EnablesMore command
PieceFits begins levels (Whole (acts.Reply command reply) events) =
    ReplyFits begins levels command reply
PieceFits begins levels _ = Unit {0}

-- a piece may stand after the pieces before it
pub record MayStand (scope : Scope) (pieces : List Piece) (piece : Piece) : Type 0 where
  pub first : Event
  pub others : List Event
  pub begins : piece_events piece ≡ first ∷ others
  pub comes : MayCome (profile_of scope.begins) piece (position_of scope pieces)
      (last_of (events_of pieces)) first
  pub levels : PieceFits scope.begins
      (levels_of (profile_of scope.begins) (levels_before scope) pieces) piece

-- pieces, each right by itself and after those before it
abbrev pub ArePieces : Scope → List Piece → Type 0
ArePieces scope [] = Unit {0}
ArePieces scope (piece ∷ pieces) =
    IsPiece scope piece × MayStand scope pieces piece × ArePieces scope pieces

-- an act list of a transcript: pieces in order which together have all its rows and no others
pub record IsActList (scope : Scope) (pieces : List Piece) (events : List Event) : Type 0 where
  pub in_order : ArePieces scope pieces
  pub whole : events_of pieces ≡ events

-- the acts of pieces, the newest first: tails have no effect
abbrev pub acts_of : List Piece → List Act
acts_of [] = []
acts_of (Whole act events ∷ pieces) = act ∷ acts_of pieces
acts_of (piece ∷ pieces) = acts_of pieces
