-- A word goes on with a repeat, or ends it.
use Rattle.mdb_bus.proofs.Words.{ap, arith, length, refl, reply_words, rules}
use Rattle.mdb_bus.proofs.Verdicts.{repeats, repeated}
use Rattle.mdb_bus.proofs.effects.repeating.go_on_repeating.Goals as goal

pub returns-then-from-as_slice-clause-effect : goal.returns-then-from-as_slice-clause-effect
returns-then-from-as_slice-clause-effect c =
    let reply = c.args.last_reply.now.reply in
    let front = repeats reply c.args.said c.args.word (length c.args.last_reply.now.bytes)
    c.word.ensures.count (omega (arith, ap length c.as_slice.ensures.bytes)) (search rules) in
    λ scope levels command. record {
      effect = λ covers. (refl, front, (search rules, search rules));
      timely = search rules;
    }

pub returns-else-from-as_slice-clause-effect : goal.returns-else-from-as_slice-clause-effect
returns-else-from-as_slice-clause-effect c =
    let words = reply_words c.args.last_reply.now.reply in
    let whole = repeated words c.args.said c.args.word (length c.args.last_reply.now.bytes)
    c.word.ensures.count (omega (arith, ap length c.as_slice.ensures.bytes)) (search rules) in
    λ scope levels command. record {
      effect = λ covers. (whole, (search rules, search rules));
      timely = search rules;
    }
