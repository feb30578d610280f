-- The marked word of a reply has the effect of its end.
use Rattle.mdb_bus.proofs.Words.{profile_of, refl, rules}
use Rattle.mdb_bus.proofs.Verdicts.{block_covered, block_timely, reply_ended}
use Rattle.mdb_bus.proofs.effects.replying.go_on_replying.Goals as goal

pub returns-then-marked-clause-effect : goal.returns-then-marked-clause-effect
returns-then-marked-clause-effect c =
    λ scope levels. record {
      effect = λ counts. reply_ended scope c.args.command.now c.args.last.now c.args.at c.args.word
          levels c.requires (search rules) (search rules) c.bytes_have_one_fault.ensures
          c.reply_has_no_fault.ensures c.args.bytes.now
          (block_covered c.args.times (profile_of scope.begins) c.args.last.now _
          c.end_of_reply_effect.result counts (search rules))
          c.end_of_reply_effect.result c.end_of_reply_effect.ensures.ended;
      timely = block_timely c.args.times _ c.args.last.now _ c.end_of_reply_effect.result refl
          (search rules);
    }
