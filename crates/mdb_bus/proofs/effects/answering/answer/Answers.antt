-- A marked word that is no answer breaks the rule of answers, by any scope and levels.
use Rattle.mdb_bus.proofs.Words.{rules}
use Rattle.mdb_bus.proofs.Verdicts.{no_answer}
use Rattle.mdb_bus.proofs.effects.answering.answer.Goals as goal

pub returns-in-None-clause-effect : goal.returns-in-None-clause-effect
returns-in-None-clause-effect c =
    λ scope levels. record {
      effect = λ by. no_answer scope c.args.command.now c.args.last.now c.args.at c.args.word levels
          c.requires (search rules) (search rules) c.byte.result (search rules)
          c.marked.ensures.range c.byte.ensures.value c.in-None.ensures.none;
      timely = tt;
    }
