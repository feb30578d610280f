-- A word equal to the first one of the last reply begins its repeat.
use Rattle.mdb_bus.proofs.Words.{arith, length, refl, rules}
use Rattle.mdb_bus.proofs.Verdicts.{repeats}
use Rattle.mdb_bus.proofs.effects.repeating.begin_repeat.Goals as goal

pub returns-then-eq-clause-effect : goal.returns-then-eq-clause-effect
returns-then-eq-clause-effect c =
    let front =
    repeats c.args.last_reply.now.reply 0 c.args.word (length c.args.last_reply.now.bytes)
    c.word.ensures.count (omega (arith, c.word.ensures.some)) (search rules) in
    λ scope levels command. record {
      effect = λ covers. (refl, front, (search rules, search rules));
      timely = search rules;
    }
