-- How a row leads from one situation to the next.
use Rattle.std.specs.Prelude.{◌≡◌, ◌≢◌, ◌+◌, ◌%◌, ◌<◌, ◌≤◌, ◌⊎◌, ℕ, List, [], ◌∷◌, ◌++◌, length, slice_get, sum, false, Option, Some, None, Result, Ok, Err, OnOk}
use Rattle.mdb_words.specs.declared.limits.TheConstants.{WORD_GAP_MIN}
use Rattle.mdb_words.specs.declared.event.Event.{Event}
use Rattle.mdb_words.specs.declared.event.Event.TheVariants.{Word, Break}
use Rattle.mdb_words.specs.declared.word.Line.{Line}
use Rattle.mdb_words.specs.declared.word.Line.TheVariants.{Controller, Peripheral}
use Rattle.mdb_words.specs.Answer.{answer_word}
use Rattle.mdb_words.specs.Block.{block_of}
use Rattle.mdb_words.specs.declared.answer.Answer.TheVariants as answers
use Rattle.mdb_msgs.specs.declared.command.Command.{Command}
use Rattle.mdb_msgs.specs.declared.command.Device.{Device}
use Rattle.mdb_msgs.specs.declared.reply.Reply.{Reply}
use Rattle.mdb_msgs.specs.declared.fault.MsgFault.{MsgFault}
use Rattle.mdb_msgs.specs.declared.fault.MsgFault.TheVariants as reading
use Rattle.mdb_msgs.specs.declared.need.Need.TheVariants as need
use Rattle.mdb_msgs.specs.Answers.{HasDataAnswer, MayHaveData}
use Rattle.mdb_msgs.specs.Commands.{EnablesMore, Spells, device_of}
use Rattle.mdb_msgs.specs.Needs.{needed}
use Rattle.mdb_msgs.specs.OpenBlocks.{IsOpen}
use Rattle.mdb_msgs.specs.Replies.{reply_bytes}
use Rattle.mdb_bus.specs.declared.act.Act.{Act}
use Rattle.mdb_bus.specs.declared.act.Act.TheVariants as acts
use Rattle.mdb_bus.specs.declared.fault.Rule.{Rule}
use Rattle.mdb_bus.specs.declared.fault.Rule.TheVariants as rule
use Rattle.mdb_bus.specs.declared.levels.Levels.{Levels}
use Rattle.mdb_bus.specs.declared.phase.Phase.{Phase}
use Rattle.mdb_bus.specs.declared.phase.Phase.TheVariants as phase
use Rattle.mdb_bus.specs.declared.effect.Effect.{Effect}
use Rattle.mdb_bus.specs.declared.effect.Effect.TheVariants as effect
use Rattle.mdb_bus.specs.shared.Step.{Step, SomeStep, word_in}
use Rattle.mdb_bus.specs.shared.Step as step
use Rattle.mdb_bus.specs.declared.scope.Beginning.{Beginning}
use Rattle.mdb_bus.specs.declared.scope.Profile.{Profile}
use Rattle.mdb_bus.specs.declared.scope.Profile.TheVariants.{Base, Extended}
use Rattle.mdb_bus.specs.declared.scope.Scope.{Scope}
use Rattle.mdb_bus.specs.Formats.{HasFault, format_for}
use Rattle.mdb_bus.specs.Scopes.{Asks, HasCommand, needed_by, profile_of}
use Rattle.mdb_bus.specs.Times.{break_least, rest_after}
use Rattle.mdb_bus.specs.ExtendedTimes.{is_untimely}
use Rattle.mdb_bus.specs.Acts.{IsForeignOpening, IsReply, reply_words}
use Rattle.mdb_bus.specs.ActLists.{Piece, Whole, AskTail, ReplyTail, RepeatTail, Position, Quiet, InAsk, Asked, InReply, Replied, Returned, InRepeat, InForeign, BlockMayCome, BreakMayCome, InAnswerTime, InBlockTime, IsAskFront, IsRepeatFront, IsReplyFront, NotBefore, ReplyFits, left_by, position_of}
use Rattle.mdb_bus.specs.Pieces.{act_in}
use Rattle.mdb_bus.specs.LinkFaults.{LeavesProfile, IsBefore, IsPast, IsOutside, Situation}
use Rattle.mdb_bus.specs.shared.RulePlaces.{IsFirstByPlace}

-- the rule of time that a row breaks which doesn't come in time: it is early, or it is late by this
-- rule
abbrev pub IsUntimely : Rule → Option ℕ → Option Event → Event → Rule → Type 0
IsUntimely late most from to broken =
    ((broken ≡ rule.Early) × IsBefore WORD_GAP_MIN from to)
    ⊎ ((broken ≡ late) × ¬ IsBefore WORD_GAP_MIN from to × IsPast most from to)

-- a marked word of the controller begins a block
abbrev pub Opens : Scope → Position → Option Event → Event → ℕ → Step → Type 0
Opens scope position from to word (step.AskByte byte) =
    (word ≡ 256 + byte) × IsAskFront scope (byte ∷ [])
    × BlockMayCome (profile_of scope.begins) position from to
Opens scope position from to word step.Foreign =
    (byte : ℕ) × (word ≡ 256 + byte) × IsForeignOpening scope (byte ∷ [])
    × BlockMayCome (profile_of scope.begins) position from to
Opens scope position from to word _ = ⊥

-- a word goes on with a block of the controller, or ends it
abbrev pub GoesOnAsking : Scope → List ℕ → Option Event → Event → ℕ → Step → Type 0
GoesOnAsking scope bytes from to word (step.AskByte byte) =
    (word ≡ byte) × (word < 256) × IsAskFront scope (bytes ++ byte ∷ [])
    × InBlockTime (profile_of scope.begins) from to
GoesOnAsking scope bytes from to word (step.Ask command) =
    (word < 256) × Asks scope command (bytes ++ word ∷ []) × ¬ EnablesMore command
    × InBlockTime (profile_of scope.begins) from to
GoesOnAsking scope bytes from to word step.Foreign =
    (word < 256) × IsForeignOpening scope (bytes ++ word ∷ [])
    × InBlockTime (profile_of scope.begins) from to
GoesOnAsking scope bytes from to word _ = ⊥

-- a word answers a command, or begins to
abbrev pub Answers : Scope → Command → Option Event → Event → ℕ → Step → Type 0
Answers scope command from to word step.Ack =
    (word ≡ answer_word Peripheral answers.Ack) × InAnswerTime (profile_of scope.begins) from to
Answers scope command from to word step.Nak =
    (word ≡ answer_word Peripheral answers.Nak) × InAnswerTime (profile_of scope.begins) from to
Answers scope command from to word (step.ReplyByte byte) =
    (word ≡ byte) × (word < 256) × MayHaveData command
    × InAnswerTime (profile_of scope.begins) from to
Answers scope command from to word _ = ⊥

-- a word goes on with a reply, or ends it
abbrev pub GoesOnReplying : Scope → Command → List ℕ → Option Event → Levels → Event → ℕ → Step
    → Type 0
GoesOnReplying scope command bytes from levels to word (step.ReplyByte byte) =
    (word ≡ byte) × (word < 256) × (length bytes < 35)
    × InBlockTime (profile_of scope.begins) from to
GoesOnReplying scope command bytes from levels to word (step.Reply reply) =
    (word ≡ 256 + sum bytes % 256) × IsReply command reply × (bytes ≡ reply_bytes reply)
    × ReplyFits scope.begins levels command reply
    × InBlockTime (profile_of scope.begins) from to
GoesOnReplying scope command bytes from levels to word _ = ⊥

-- a word of the controller answers a reply, or begins a block
abbrev pub AnswersReply : Scope → Command → Reply → Option Event → Event → ℕ → Step → Type 0
AnswersReply scope command reply from to word step.VmcAck =
    (word ≡ answer_word Controller answers.Ack) × InAnswerTime (profile_of scope.begins) from to
AnswersReply scope command reply from to word step.VmcNak =
    (word ≡ answer_word Controller answers.Nak) × InAnswerTime (profile_of scope.begins) from to
AnswersReply scope command reply from to word step.VmcRet =
    (word ≡ answer_word Controller answers.Ret) × InAnswerTime (profile_of scope.begins) from to
AnswersReply scope command reply from to word next =
    Opens scope (Replied command reply) from to word next

-- a word begins a repeat
abbrev pub BeginsRepeat : Scope → Reply → Option Event → Event → ℕ → Step → Type 0
BeginsRepeat scope reply from to word (step.RepeatWord said) =
    (word ≡ said) × IsRepeatFront reply (word ∷ []) × InAnswerTime (profile_of scope.begins) from to
BeginsRepeat scope reply from to word _ = ⊥

-- a word goes on with a repeat, or ends it
abbrev pub GoesOnRepeating : Scope → Reply → List ℕ → Option Event → Event → ℕ → Step → Type 0
GoesOnRepeating scope reply words from to word (step.RepeatWord said) =
    (word ≡ said) × IsRepeatFront reply (words ++ word ∷ [])
    × InBlockTime (profile_of scope.begins) from to
GoesOnRepeating scope reply words from to word step.Repeat =
    (words ++ word ∷ [] ≡ reply_words reply) × InBlockTime (profile_of scope.begins) from to
GoesOnRepeating scope reply words from to word _ = ⊥

-- a further word of foreign traffic
abbrev pub GoesOnForeign : Option Event → Event → Step → Type 0
GoesOnForeign from to step.Foreign = NotBefore (rest_after from) from to
GoesOnForeign from to _ = ⊥

-- where a word leads
abbrev pub WordLeads : Scope → Position → Option Event → Levels → Event → Line → ℕ → Step → Type 0
WordLeads scope Quiet from levels to Controller word next = Opens scope Quiet from to word next
WordLeads scope Quiet from levels to Peripheral word next = ⊥
WordLeads scope (InAsk bytes) from levels to Controller word next =
    GoesOnAsking scope bytes from to word next
WordLeads scope (InAsk bytes) from levels to Peripheral word next = ⊥
WordLeads scope (Asked command) from levels to Controller word next =
    Opens scope (Asked command) from to word next
WordLeads scope (Asked command) from levels to Peripheral word next =
    Answers scope command from to word next
WordLeads scope (InReply command bytes) from levels to Controller word next = ⊥
WordLeads scope (InReply command bytes) from levels to Peripheral word next =
    GoesOnReplying scope command bytes from levels to word next
WordLeads scope (Replied command reply) from levels to Controller word next =
    AnswersReply scope command reply from to word next
WordLeads scope (Replied command reply) from levels to Peripheral word next = ⊥
WordLeads scope (Returned command reply) from levels to Controller word next =
    Opens scope (Returned command reply) from to word next
WordLeads scope (Returned command reply) from levels to Peripheral word next =
    BeginsRepeat scope reply from to word next
WordLeads scope (InRepeat command reply words) from levels to Controller word next = ⊥
WordLeads scope (InRepeat command reply words) from levels to Peripheral word next =
    GoesOnRepeating scope reply words from to word next
WordLeads scope InForeign from levels to Controller word next =
    Opens scope InForeign from to word next ⊎ ((word < 256) × GoesOnForeign from to next)
WordLeads scope InForeign from levels to Peripheral word next = GoesOnForeign from to next

-- where a row leads
abbrev pub Leads : Situation → Event → Step → Type 0
Leads s (Word at line word) next =
    WordLeads s.scope s.position s.last s.levels (Word at line word) line word next
Leads s (Break at length) (step.Break lasted) =
    (lasted ≡ length) × (break_least (profile_of s.scope.begins) ≤ length)
    × BreakMayCome s.last (Break at length)
Leads s (Break at length) _ = ⊥

-- what is made of the data bytes of a reply to a command, in a recording that begins so, at these
-- levels
abbrev pub IsRead : Beginning → Command → List ℕ → Levels → Result Reply Rule → Type 0
IsRead begins command bytes levels (Ok reply) = IsReply command reply
    × (bytes ≡ reply_bytes reply) × ReplyFits begins levels command reply
IsRead begins command bytes levels (Err rule.Length) =
    HasFault (format_for begins levels command) command bytes reading.Length
IsRead begins command bytes levels (Err rule.Message) =
    HasFault (format_for begins levels command) command bytes reading.Message
IsRead begins command bytes levels (Err rule.Answer) =
    HasFault (format_for begins levels command) command bytes reading.Answer
IsRead begins command bytes levels (Err rule.Profile) =
    HasFault (format_for begins levels command) command bytes reading.Profile
    ⊎ LeavesProfile begins command bytes levels
IsRead begins command bytes levels (Err _) = ⊥

-- the same for the bytes at a position: only inside a reply something can be read
abbrev pub IsReadAt : Beginning → Position → Levels → Result Reply Rule → Type 0
IsReadAt begins (InReply command bytes) levels result = IsRead begins command bytes levels result
IsReadAt begins _ levels result = ⊥

-- what is made of a row that ends a reply, once the reply was read
abbrev pub IsSettled : Situation → Event → Result Reply Rule → Type 0
IsSettled s row (Ok reply) = Leads s row (step.Reply reply)
IsSettled s row (Err broken) = IsFirstByPlace s row broken

-- What is made of a row that ends a reply is as the reply is read. This says nothing of the rows of
-- other positions, at which nothing is read.
abbrev pub IsEnded : Situation → Event → Type 0
IsEnded s row = (result : Result Reply Rule)
    → IsReadAt s.scope.begins s.position s.levels result → IsSettled s row result

-- what is made of a row: where it leads, or the first rule that it breaks
abbrev pub HasEffect : Situation → Event → Result Effect Rule → Type 0
HasEffect s row (Ok effect.Reply) = IsEnded s row
HasEffect s row (Ok found) = SomeStep found row (Leads s row)
HasEffect s row (Err broken) = IsFirstByPlace s row broken

-- what comes in the times of a profile comes in those of another
abbrev pub Covers : Profile → Profile → Type 0
Covers Base profile = Unit {0}
Covers Extended Base = ⊥
Covers Extended Extended = Unit {0}

-- what is made of a row by the times of a profile counts for another: for each profile whose times
-- those cover, and a fault for the same profile alone
abbrev pub Counts : Profile → Profile → Result Effect Rule → Type 0
Counts times profile (Ok found) = Covers times profile
Counts times profile (Err broken) = times ≡ profile

-- by the base profile's times a row is in its time
abbrev pub IsTimely : Profile → Position → Option Event → Event → Type 0
IsTimely Base position from to = is_untimely position from to ≡ false
IsTimely Extended position from to = Unit {0}

-- what is made of a row by the times of a profile
pub record HasEffectBy (times : Profile) (s : Situation) (row : Event)
    (result : Result Effect Rule) : Type 0 where
  pub effect : Counts times (profile_of s.scope.begins) result → HasEffect s row result
  pub timely : OnOk result (IsTimely times s.position s.last row)

-- the rule that a block breaks whose content can't be read
abbrev pub rule_of : MsgFault → Rule
rule_of reading.Length = rule.Length
rule_of reading.Message = rule.Message
rule_of reading.Profile = rule.Profile
rule_of reading.Answer = rule.Answer

-- what is made of a word of the controller where a block may begin so long after the row before
abbrev pub IsOpened : Scope → ℕ → Option Event → Event → ℕ → Result Effect Rule → Type 0
IsOpened scope least from to word (Ok effect.AskByte) =
    (word ≡ 256 + word % 256) × IsAskFront scope (word % 256 ∷ []) × NotBefore least from to
IsOpened scope least from to word (Ok effect.Foreign) =
    (byte : ℕ) × (word ≡ 256 + byte) × IsForeignOpening scope (byte ∷ []) × NotBefore least from to
IsOpened scope least from to word (Ok _) = ⊥
IsOpened scope least from to word (Err rule.Mode) = word < 256
IsOpened scope least from to word (Err rule.Early) = (256 ≤ word) × IsBefore least from to
IsOpened scope least from to word (Err rule.Profile) =
    IsOutside scope word × NotBefore least from to
IsOpened scope least from to word (Err _) = ⊥

-- bytes that begin the block of a command that a profile has, whoever it is to, and don't end it
pub record IsCommandFront (profile : Profile) (bytes : List ℕ) : Type 0 where
  pub some : bytes ≢ []
  pub command : Command
  pub known : HasCommand profile command
  pub rest : List ℕ
  pub open_end : rest ≢ []
  pub spelled : Spells command (bytes ++ rest)

-- the first byte of an EXPANSION, and a subcommand that a profile doesn't know
abbrev pub IsUnknownExpansion : Profile → List ℕ → Type 0
IsUnknownExpansion profile (first ∷ second ∷ []) =
    (needed (first ∷ []) ≡ need.More)
    × (needed_by profile (first ∷ second ∷ []) ≡ need.Foreign) × (second < 256)
IsUnknownExpansion profile _ = ⊥

-- what is made of an unmarked word that comes in time inside a block of the controller, whoever it
-- is to
abbrev pub IsGoingOn : Profile → List ℕ → ℕ → Result Effect Rule → Type 0
IsGoingOn profile bytes word (Ok effect.AskByte) =
    (word ≡ word % 256) × IsCommandFront profile (bytes ++ word % 256 ∷ [])
IsGoingOn profile bytes word (Ok effect.Ask) =
    (command : Command) × Spells command (bytes ++ word ∷ []) × HasCommand profile command
    × ¬ EnablesMore command
IsGoingOn profile bytes word (Ok effect.Foreign) = IsUnknownExpansion profile (bytes ++ word ∷ [])
IsGoingOn profile bytes word (Ok _) = ⊥
IsGoingOn profile bytes word (Err rule.Sum) =
    (needed_by profile bytes ≡ need.Exactly (length bytes + 1)) × (word ≢ sum bytes % 256)
IsGoingOn profile bytes word (Err rule.Profile) =
    ((needed_by profile bytes ≡ need.More)
    × (needed_by profile (bytes ++ word ∷ []) ≡ need.Outside))
    ⊎ ((command : Command) × Spells command (bytes ++ word ∷ []) × HasCommand profile command
    × EnablesMore command)
IsGoingOn profile bytes word (Err _) = ⊥

-- what is made of the marked word of a reply that comes in time
abbrev pub IsReplyEnd : Command → List ℕ → ℕ → Result Effect Rule → Type 0
IsReplyEnd command bytes word (Ok effect.Reply) =
    HasDataAnswer command (length bytes) × (word ≡ 256 + sum bytes % 256)
IsReplyEnd command bytes word (Ok _) = ⊥
IsReplyEnd command bytes word (Err rule.Length) = ¬ HasDataAnswer command (length bytes)
IsReplyEnd command bytes word (Err rule.Sum) =
    HasDataAnswer command (length bytes) × (word ≢ 256 + sum bytes % 256)
IsReplyEnd command bytes word (Err _) = ⊥

-- a position that the bus can be in: a block has begun well
abbrev pub IsSound : Scope → Position → Type 0
IsSound scope (InAsk bytes) = IsAskFront scope bytes
IsSound scope (InReply command bytes) = IsReplyFront command bytes
IsSound scope _ = Unit {0}

-- a block of the controller may go on by a byte that isn't its last, or begin with it
abbrev pub MayAsk : Phase → List ℕ → ℕ → Type 0
MayAsk phase.InAsk bytes byte = (length bytes < 35) × IsOpen (bytes ++ byte ∷ [])
MayAsk _ bytes byte = IsOpen (byte ∷ [])

-- a reply may go on by a byte, or begin with it
abbrev pub MayReply : Phase → List ℕ → Type 0
MayReply phase.Asked bytes = Unit {0}
MayReply phase.InReply bytes = length bytes < 35
MayReply _ bytes = ⊥

-- a repeat may go on by a word that isn't its last, or begin with it
abbrev pub MayRepeat : Phase → Type 0
MayRepeat phase.Returned = Unit {0}
MayRepeat (phase.InRepeat said) = said < 35
MayRepeat _ = ⊥

abbrev pub IsWord : Event → Type 0
IsWord (Word at line word) = Unit {0}
IsWord (Break at length) = ⊥

abbrev pub IsBreak : Event → Type 0
IsBreak (Break at length) = Unit {0}
IsBreak (Word at line word) = ⊥

-- The effect of a row belongs to the phase in which it comes.
abbrev pub Belongs : Phase → List ℕ → Event → Effect → Type 0
Belongs here bytes row effect.AskByte =
    IsWord row × MayAsk here bytes (word_in row % 256)
Belongs here bytes row effect.Ask =
    (here ≡ phase.InAsk) × (command : Command) × Spells command (block_of bytes)
Belongs here bytes row effect.Foreign = Unit {0}
Belongs here bytes row effect.Ack = here ≡ phase.Asked
Belongs here bytes row effect.Nak = here ≡ phase.Asked
Belongs here bytes row effect.ReplyByte = IsWord row × MayReply here bytes
Belongs here bytes row effect.Reply = here ≡ phase.InReply
Belongs here bytes row effect.VmcAck = here ≡ phase.Replied
Belongs here bytes row effect.VmcNak = here ≡ phase.Replied
Belongs here bytes row effect.VmcRet = here ≡ phase.Replied
Belongs here bytes row effect.RepeatWord = MayRepeat here
Belongs here bytes row effect.Repeat = (said : ℕ) × (here ≡ phase.InRepeat said)
Belongs here bytes row effect.Break = IsBreak row

-- the word at an index of a reply's block
abbrev pub word_at : Reply → ℕ → Option ℕ
word_at reply index = slice_get (reply_words reply) index

-- The newest piece after a step, with its events. What no step leads to stands as a foreign act.
abbrev pub piece_after : Position → Step → List Event → Piece
piece_after (InAsk bytes) (step.AskByte byte) = AskTail (bytes ++ byte ∷ [])
piece_after position (step.AskByte byte) = AskTail (byte ∷ [])
piece_after position (step.Ask command) = Whole (acts.Ask command)
piece_after (Asked command) step.Ack = Whole (acts.Ack command)
piece_after (Asked command) step.Nak = Whole (acts.Nak command)
piece_after (Asked command) (step.ReplyByte byte) = ReplyTail command (byte ∷ [])
piece_after (InReply command bytes) (step.ReplyByte byte) = ReplyTail command (bytes ++ byte ∷ [])
piece_after (InReply command bytes) (step.Reply reply) = Whole (acts.Reply command reply)
piece_after (Replied command reply) step.VmcAck = Whole (acts.VmcAck command reply)
piece_after (Replied command reply) step.VmcNak = Whole (acts.VmcNak command reply)
piece_after (Replied command reply) step.VmcRet = Whole (acts.VmcRet command reply)
piece_after (Returned command reply) (step.RepeatWord word) = RepeatTail command reply (word ∷ [])
piece_after (InRepeat command reply words) (step.RepeatWord word) =
    RepeatTail command reply (words ++ word ∷ [])
piece_after (InRepeat command reply words) step.Repeat = Whole (acts.Repeat command reply)
piece_after position (step.Break length) = Whole (acts.Break length)
piece_after position _ = Whole acts.Foreign

-- pieces with one row more: a tail goes on, and a new piece stands after a whole act
abbrev pub grown : List Piece → Event → (List Event → Piece) → List Piece
grown (AskTail bytes events ∷ pieces) row piece = piece (events ++ row ∷ []) ∷ pieces
grown (ReplyTail command bytes events ∷ pieces) row piece = piece (events ++ row ∷ []) ∷ pieces
grown (RepeatTail command reply words events ∷ pieces) row piece =
    piece (events ++ row ∷ []) ∷ pieces
grown pieces row piece = piece (row ∷ []) ∷ pieces

-- pieces after a step: a break stands after a tail too
abbrev pub pieces_after : Scope → List Piece → Event → Step → List Piece
pieces_after scope pieces row (step.Break length) = Whole (acts.Break length) (row ∷ []) ∷ pieces
pieces_after scope pieces row next = grown pieces row (piece_after (position_of scope pieces) next)

-- where the bus is after a step
abbrev pub position_after : Position → Step → Position
position_after position next = left_by (piece_after position next [])

-- the act that a step ends
abbrev pub act_after : Position → Step → Option Act
act_after position next = act_in (piece_after position next [])

-- the device that was asked last, after a step
abbrev pub asked_after : Option Device → Step → Option Device
asked_after asked (step.Ask command) = Some (device_of command)
asked_after asked step.Foreign = None
asked_after asked (step.Break length) = None
asked_after asked _ = asked

-- a step belongs to a position
abbrev pub IsAt : Position → Step → Type 0
IsAt position (step.AskByte byte) = Unit {0}
IsAt (InAsk bytes) (step.Ask command) = Spells command (block_of bytes)
IsAt position step.Foreign = Unit {0}
IsAt (Asked command) step.Ack = Unit {0}
IsAt (Asked command) step.Nak = Unit {0}
IsAt (Asked command) (step.ReplyByte byte) = Unit {0}
IsAt (InReply command bytes) (step.ReplyByte byte) = Unit {0}
IsAt (InReply command bytes) (step.Reply reply) = IsReply command reply
    × (bytes ≡ reply_bytes reply)
IsAt (Replied command reply) step.VmcAck = Unit {0}
IsAt (Replied command reply) step.VmcNak = Unit {0}
IsAt (Replied command reply) step.VmcRet = Unit {0}
IsAt (Returned command reply) (step.RepeatWord word) = IsRepeatFront reply (word ∷ [])
IsAt (InRepeat command reply words) (step.RepeatWord word) =
    IsRepeatFront reply (words ++ word ∷ [])
IsAt (InRepeat command reply words) step.Repeat = Unit {0}
IsAt position (step.Break length) = Unit {0}
IsAt _ _ = ⊥

-- where a step has led, and the act that it ended
pub record HasAdvanced (old : Position) (next : Step) (new : Position)
    (ended : Option Act) : Type 0 where
  pub position : new ≡ position_after old next
  pub act : ended ≡ act_after old next

-- what a place makes of a reply that has ended: it takes it, or tells the rule that it breaks
abbrev pub IsTaken : Beginning → Position → Levels → Position → Result Act Rule → Type 0
IsTaken begins old levels new (Ok act) = (reply : Reply)
    × IsReadAt begins old levels (Ok reply) × HasAdvanced old (step.Reply reply) new (Some act)
IsTaken begins old levels new (Err broken) = IsReadAt begins old levels (Err broken)
