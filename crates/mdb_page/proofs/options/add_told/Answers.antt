-- What is told of a reader is refused where a part of it is.
use Rattle.std.proofs.Common.{refl}
use Rattle.mdb_page.proofs.OneOption.{no_options}
use Rattle.mdb_page.proofs.options.add_told.Goals as goal

pub returns-then-not-add_level-clause-refused : goal.returns-then-not-add_level-clause-refused
returns-then-not-add_level-clause-refused c = λ no after is.
    c.if-not-add_level.ensures.refused refl is.with_level is.level

pub returns-clause-refused : goal.returns-clause-refused
returns-clause-refused c = λ no. no_options c.block_has_one_command.ensures c.args.unit
    c.args.told.now _ _ _ (c.if-not-add_level.ensures.added refl)
    (c.if-not-add_ask.ensures.added refl) (c.add_ask-2.ensures.refused no)
