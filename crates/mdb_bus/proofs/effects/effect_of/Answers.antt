-- A row has the effect of a break, or that of a word of its line.
use Rattle.mdb_bus.proofs.Words.{position_at}
use Rattle.mdb_bus.proofs.effects.effect_of.Goals as goal

pub returns-in-Break : goal.returns-in-Break
returns-in-Break c = record {
  effect = λ levels sound. rw c.in-Break.is
      (c.break_effect.ensures.effect c.args.scope.now (position_at c.args.place.now) levels);
  belongs = rw c.in-Break.is
      (c.break_effect.ensures.belongs c.args.place.now.phase c.args.place.now.bytes);
}

pub returns-in-Controller-clause-effect : goal.returns-in-Controller-clause-effect
returns-in-Controller-clause-effect c =
    rw (c.in-Word.is, c.in-Controller.is) c.controller_effect.ensures.effect

pub returns-in-Peripheral-clause-effect : goal.returns-in-Peripheral-clause-effect
returns-in-Peripheral-clause-effect c =
    λ levels sound. rw (c.in-Word.is, c.in-Peripheral.is)
    (c.peripheral_effect.ensures.effect c.args.scope.now levels)
