-- What is told of both readers is refused where that of one is.
use Rattle.std.proofs.Common.{refl}
use Rattle.mdb_page.proofs.OneOption.{no_second}
use Rattle.mdb_page.proofs.options.add_readers.Goals as goal

pub returns-then-not-add_reader-clause-refused : goal.returns-then-not-add_reader-clause-refused
returns-then-not-add_reader-clause-refused c = λ no after are.
    c.if-not-add_reader.ensures.refused refl are.with_first are.first

pub returns-clause-refused : goal.returns-clause-refused
returns-clause-refused c = λ no. no_second c.block_has_one_command.ensures c.args.without
    c.args.readers.now _ _ (c.if-not-add_reader.ensures.added refl)
    (c.add_reader-2.ensures.refused no)
