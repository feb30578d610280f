-- A block has one command, so an ask of a POLL's block is that POLL.
use Rattle.mdb_bus.proofs.Words.{ap, Asked, block_of, Some, Spells, ◌∙◌}
use Rattle.mdb_bus.specs.declared.act.Act.TheVariants as acts
use Rattle.mdb_bus.proofs.place.Place.end_ask.Goals as goal

pub returns-in-Some-clause-advanced : goal.returns-in-Some-clause-advanced
returns-in-Some-clause-advanced c =
    rw c.requires.asking (λ command at.
    let spells : Spells c.poll.result (block_of c.args.self.now.bytes) =
    rw (c.poll.ensures, ← c.as_slice.ensures.bytes) c.in-Some.ensures.some in
    let same = c.block_has_one_command.ensures _ c.poll.result command spells at in
    record {
      position = c.ask.ensures.asked ∙ ap Asked same;
      act = c.ask.ensures.ended ∙ ap (λ asked. Some (acts.Ask asked)) same;
    })
