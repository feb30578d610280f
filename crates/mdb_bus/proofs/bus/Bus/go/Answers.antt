-- The bus goes a step as its place advances.
use Rattle.mdb_bus.proofs.Words.{ended_act, refl}
use Rattle.mdb_bus.proofs.Feed.{gone_ack, gone_ask, gone_break, gone_on}
use Rattle.mdb_bus.proofs.bus.Bus.go.Goals as goal

pub returns-in-Ask-clause-gone : goal.returns-in-Ask-clause-gone
returns-in-Ask-clause-gone c =
    gone_ask c.args.self.now c.note_ask.new.self c.args.event.now c.note_ask.ensures.scope
    c.note_ask.ensures.last c.args.effect c.advance-ended.new.self c.advance-ended.result
    c.advance-ended.new.act c.in-Ask.is c.note_ask.ensures.place c.note_ask.ensures.features
    c.note_ask.ensures.levels c.note_ask.ensures.asked c.advance-ended.ensures.advanced

pub returns-in-Ack-clause-gone : goal.returns-in-Ack-clause-gone
returns-in-Ack-clause-gone c =
    gone_ack c.args.self.now _ c.args.event.now refl refl refl c.args.effect
    c.advance-ended.result c.advance-ended.new.act c.in-Ack.is c.note.ensures refl
    c.advance-ended.ensures.advanced

pub returns-in-Break-clause-gone : goal.returns-in-Break-clause-gone
returns-in-Break-clause-gone c =
    gone_break c.args.self.now _ c.args.event.now refl refl refl c.args.effect
    c.advance-ended.result c.advance-ended.new.act c.in-Break.is c.note-in-Break.ensures refl
    c.advance-ended.ensures.advanced

pub returns-in_default-clause-gone : goal.returns-in_default-clause-gone
returns-in_default-clause-gone c =
    gone_on c.args.self.now _ c.args.event.now refl refl refl refl c.args.effect
    (ended_act c.advance-ended.result c.advance-ended.new.act) c.in_default.not-Ask
    c.in_default.not-Ack c.requires.foreign c.in_default.not-Break refl
    c.advance-ended.ensures.advanced
