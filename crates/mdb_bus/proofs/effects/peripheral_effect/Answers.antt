-- A word of a peripheral has at each phase the effect that the function of that phase finds.
use Rattle.mdb_bus.proofs.Words.{Peripheral, Word}
use Rattle.mdb_bus.proofs.effects.peripheral_effect.Goals as goal

pub returns-in-Asked : goal.returns-in-Asked
returns-in-Asked c = record {
  effect = rw c.in-Asked.is c.answer.ensures.effect;
  belongs = rw c.in-Asked.is (c.answer.ensures.belongs c.args.place.now.bytes);
}

pub returns-in-InReply : goal.returns-in-InReply
returns-in-InReply c = record {
  effect = rw c.in-InReply.is c.go_on_replying.ensures.effect;
  belongs = rw c.in-InReply.is c.go_on_replying.ensures.belongs;
}

pub returns-in-Returned : goal.returns-in-Returned
returns-in-Returned c = record {
  effect = λ scope levels. rw c.in-Returned.is
      (c.begin_repeat.ensures.effect scope levels c.args.place.now.command);
  belongs = rw c.in-Returned.is (c.begin_repeat.ensures.belongs c.args.place.now.bytes
      (Word c.args.at Peripheral c.args.word));
}

pub returns-in-InRepeat : goal.returns-in-InRepeat
returns-in-InRepeat c = record {
  effect = λ scope levels. rw c.in-InRepeat.is
      (c.go_on_repeating.ensures.effect scope levels c.args.place.now.command);
  belongs = rw c.in-InRepeat.is (c.go_on_repeating.ensures.belongs c.args.place.now.bytes
      (Word c.args.at Peripheral c.args.word));
}

pub returns-in-InForeign : goal.returns-in-InForeign
returns-in-InForeign c = record {
  effect = rw c.in-InForeign.is (c.go_on_foreign.ensures.effect c.args.times);
  belongs = c.go_on_foreign.ensures.belongs c.args.place.now.phase c.args.place.now.bytes
      (Word c.args.at Peripheral c.args.word);
}
