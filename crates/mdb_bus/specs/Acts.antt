-- What is done on the bus, and in which words (MDB/ICP 4.3, bus format; foreign acts and breaks,
-- this profile).
use Rattle.std.specs.Prelude.{◌≡◌, ℕ, ◌<◌, ◌≤◌, ◌⊎◌, List, [], ◌∷◌, map, Option, Some, None}
use Rattle.mdb_words.specs.declared.event.Event.{Event}
use Rattle.mdb_words.specs.declared.event.Event.TheVariants.{Word, Break}
use Rattle.mdb_words.specs.declared.word.Line.{Line}
use Rattle.mdb_words.specs.declared.word.Line.TheVariants.{Controller, Peripheral}
use Rattle.mdb_words.specs.Answer.{answer_word}
use Rattle.mdb_words.specs.Block.{IsContent, block_of, words_on}
use Rattle.mdb_words.specs.declared.answer.Answer.{Answer}
use Rattle.mdb_words.specs.declared.answer.Answer.TheVariants as answers
use Rattle.mdb_msgs.specs.declared.command.Command.{Command}
use Rattle.mdb_msgs.specs.declared.need.Need.TheVariants as need
use Rattle.mdb_msgs.specs.declared.reply.Reply.{Reply}
use Rattle.mdb_msgs.specs.Commands.{IsByte, command_bytes}
use Rattle.mdb_msgs.specs.Replies.{IsReplyTo, reply_bytes}
use Rattle.mdb_bus.specs.declared.act.Act.{Act}
use Rattle.mdb_bus.specs.declared.act.Act.TheVariants as acts
use Rattle.mdb_bus.specs.declared.scope.Scope.{Scope}
use Rattle.mdb_bus.specs.Scopes.{Asks, needed_in, profile_of}
use Rattle.mdb_bus.specs.Times.{break_least}

-- the line and the word of an event, if it is a word
abbrev pub said_by : Event → Option (Line × ℕ)
said_by (Word at line word) = Some (line, word)
said_by (Break at length) = None

-- these events are these words on this line
abbrev pub Say : Line → List ℕ → List Event → Type 0
Say line words events = map said_by events ≡ map (λ word. Some (line, word)) words

-- one event, an answer of one byte on this line
abbrev pub SayAnswer : Line → Answer → List Event → Type 0
SayAnswer line answer events = Say line (answer_word line answer ∷ []) events

-- the words of a command's block: the controller marks the first
abbrev pub command_words : Command → List ℕ
command_words command = words_on Controller (block_of (command_bytes command))

-- the words of a reply's block: a peripheral marks the last
abbrev pub reply_words : Reply → List ℕ
reply_words reply = words_on Peripheral (block_of (reply_bytes reply))

-- a reply that may answer a command, and whose data bytes have a block
pub record IsReply (command : Command) (reply : Reply) : Type 0 where
  pub answers : IsReplyTo command reply
  pub content : IsContent (reply_bytes reply)

-- The bytes that open a foreign block: an address that isn't followed, or the first byte of an
-- EXPANSION to a device that is, and a subcommand that this profile doesn't know.
abbrev pub IsForeignOpening : Scope → List ℕ → Type 0
IsForeignOpening scope (first ∷ []) = needed_in scope (first ∷ []) ≡ need.Foreign
IsForeignOpening scope (first ∷ second ∷ []) =
    (needed_in scope (first ∷ []) ≡ need.More)
    × (needed_in scope (first ∷ second ∷ []) ≡ need.Foreign)
    × IsByte second
IsForeignOpening scope _ = ⊥

-- a marked word of the controller, which begins a block
abbrev pub IsBlockWord : Event → Type 0
IsBlockWord (Word at Controller word) = 256 ≤ word
IsBlockWord (Word at Peripheral word) = ⊥
IsBlockWord (Break at length) = ⊥

-- a word of foreign traffic: any word but a marked one of the controller, which begins a block
abbrev pub IsForeignWord : Event → Type 0
IsForeignWord (Word at Controller word) = word < 256
IsForeignWord (Word at Peripheral word) = Unit {0}
IsForeignWord (Break at length) = ⊥

-- a foreign act: the opening of a foreign block, or a word after one
abbrev pub IsForeign : Scope → List Event → Type 0
IsForeign scope events =
    ((bytes : List ℕ) × IsForeignOpening scope bytes
    × Say Controller (words_on Controller bytes) events)
    ⊎ ((event : Event) × (events ≡ event ∷ []) × IsForeignWord event)

-- an act and its events, as a recording is taken; what an answer belongs to is settled by where it
-- may come
abbrev pub IsAct : Scope → Act → List Event → Type 0
IsAct scope (acts.Ask command) events =
    Asks scope command (block_of (command_bytes command))
    × Say Controller (command_words command) events
IsAct scope (acts.Ack command) events = SayAnswer Peripheral answers.Ack events
IsAct scope (acts.Nak command) events = SayAnswer Peripheral answers.Nak events
IsAct scope (acts.Reply command reply) events = IsReply command reply
    × Say Peripheral (reply_words reply) events
IsAct scope (acts.VmcAck command reply) events = SayAnswer Controller answers.Ack events
IsAct scope (acts.VmcNak command reply) events = SayAnswer Controller answers.Nak events
IsAct scope (acts.VmcRet command reply) events = SayAnswer Controller answers.Ret events
IsAct scope (acts.Repeat command reply) events = Say Peripheral (reply_words reply) events
IsAct scope acts.Foreign events = IsForeign scope events
IsAct scope (acts.Break length) events =
    (at : ℕ) × (events ≡ Break at length ∷ [])
    × (break_least (profile_of scope.begins) ≤ length)

-- an ACK: a peripheral's, or the controller's
abbrev pub IsAck : Act → Type 0
IsAck (acts.Ack command) = Unit {0}
IsAck (acts.VmcAck command reply) = Unit {0}
IsAck _ = ⊥
