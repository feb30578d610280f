-- The answers of one byte (MDB/ICP 4.3, response codes).
use Rattle.std.specs.Prelude.{ℕ, ◌+◌}
use Rattle.mdb_words.specs.declared.word.Line.{Line}
use Rattle.mdb_words.specs.declared.word.Line.TheVariants.{Controller, Peripheral}
use Rattle.mdb_words.specs.declared.answer.Answer.{Answer}
use Rattle.mdb_words.specs.declared.answer.Answer.TheVariants.{Ack, Nak, Ret}

-- the byte of an answer
abbrev pub answer_byte : Answer → ℕ
answer_byte Ack = 0x00
answer_byte Nak = 0xFF
answer_byte Ret = 0xAA

-- its word on a line: a peripheral marks the last word of what it sends, the controller marks the
-- first of a block alone, and so no answer
abbrev pub answer_word : Line → Answer → ℕ
answer_word Controller answer = answer_byte answer
answer_word Peripheral answer = 256 + answer_byte answer
