-- A marked word begins the block of a command.
use Rattle.mdb_bus.proofs.Words.{Ok, rules}
use Rattle.mdb_bus.specs.declared.effect.Effect.TheVariants.{AskByte}
use Rattle.mdb_bus.proofs.Verdicts.{begins_followed, opened_belongs}
use Rattle.mdb_bus.proofs.effects.asking.begin_block.Goals as goal

pub returns-in-More-clause-opened : goal.returns-in-More-clause-opened
returns-in-More-clause-opened c = (
  search rules,
  begins_followed c.first_byte_tells_the_device.ensures
      c.need_leaves_another_command_open.ensures c.args.scope.now c.args.word c.byte.result
      c.first_need.result c.byte.ensures.value c.first_need.ensures c.in-More.is,
  search rules,
)

pub returns-in-More-clause-belongs : goal.returns-in-More-clause-belongs
returns-in-More-clause-belongs c =
    opened_belongs c.args.scope.now c.front_of_a_command_is_open.ensures c.args.least
    c.args.last.now c.args.at c.args.word (Ok AskByte) (returns-in-More-clause-opened c)
