-- What a row does that breaks no rule.
use Rattle.std.specs.Prelude.{ℕ, ◌%◌}
use Rattle.mdb_msgs.specs.declared.command.Command.{Command}
use Rattle.mdb_msgs.specs.declared.reply.Reply.{Reply as Data}
use Rattle.mdb_words.specs.declared.event.Event.{Event}
use Rattle.mdb_words.specs.declared.event.Event.TheVariants as events
use Rattle.mdb_bus.specs.declared.effect.Effect.{Effect}
use Rattle.mdb_bus.specs.declared.effect.Effect.TheVariants as effect

-- A step of the bus. The last word of a block tells its command, and that of a reply the reply.
pub data Step : Type 0 where
  AskByte : ℕ → Step
  Ask : Command → Step
  Foreign : Step
  Ack : Step
  Nak : Step
  ReplyByte : ℕ → Step
  Reply : Data → Step
  VmcAck : Step
  VmcNak : Step
  VmcRet : Step
  RepeatWord : ℕ → Step
  Repeat : Step
  Break : ℕ → Step

-- the word of a row, or 0
abbrev pub word_in : Event → ℕ
word_in (events.Word at line word) = word
word_in (events.Break at length) = 0

-- The step of a row has this, whichever command it tells: a byte is the eight data
-- bits of the row's word, and a break lasts as long as the row says. The last word of a reply is no
-- step before the reply was read.
abbrev pub EachStep : Effect → Event → (Step → Type 0) → Type 0
EachStep effect.AskByte row Has = Has (AskByte (word_in row % 256))
EachStep effect.Ask row Has = (command : Command) → Has (Ask command)
EachStep effect.Foreign row Has = Has Foreign
EachStep effect.Ack row Has = Has Ack
EachStep effect.Nak row Has = Has Nak
EachStep effect.ReplyByte row Has = Has (ReplyByte (word_in row % 256))
EachStep effect.Reply row Has = Unit {0}
EachStep effect.VmcAck row Has = Has VmcAck
EachStep effect.VmcNak row Has = Has VmcNak
EachStep effect.VmcRet row Has = Has VmcRet
EachStep effect.RepeatWord row Has = Has (RepeatWord (word_in row))
EachStep effect.Repeat row Has = Has Repeat
EachStep effect.Break (events.Break at length) Has = Has (Break length)
EachStep effect.Break (events.Word at line word) Has = Unit {0}

-- the step of a row has this, for some command that it tells
abbrev pub SomeStep : Effect → Event → (Step → Type 0) → Type 0
SomeStep effect.Reply row Has = ⊥
SomeStep effect.AskByte row Has = Has (AskByte (word_in row % 256))
SomeStep effect.Ask row Has = (command : Command) × Has (Ask command)
SomeStep effect.Foreign row Has = Has Foreign
SomeStep effect.Ack row Has = Has Ack
SomeStep effect.Nak row Has = Has Nak
SomeStep effect.ReplyByte row Has = Has (ReplyByte (word_in row % 256))
SomeStep effect.VmcAck row Has = Has VmcAck
SomeStep effect.VmcNak row Has = Has VmcNak
SomeStep effect.VmcRet row Has = Has VmcRet
SomeStep effect.RepeatWord row Has = Has (RepeatWord (word_in row))
SomeStep effect.Repeat row Has = Has Repeat
SomeStep effect.Break (events.Break at length) Has = Has (Break length)
SomeStep effect.Break (events.Word at line word) Has = ⊥
