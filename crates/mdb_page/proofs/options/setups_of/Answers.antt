-- Setup data are refused where answers or readers are.
use Rattle.std.proofs.Common.{refl}
use Rattle.mdb_page.proofs.options.setups_of.Goals as goal

pub returns-in_default-clause-refused : goal.returns-in_default-clause-refused
returns-in_default-clause-refused c = λ setups are.
    c.in_default.ensures.refused are.by_answers are.answers

pub returns-then-not-add_readers-clause-refused : goal.returns-then-not-add_readers-clause-refused
returns-then-not-add_readers-clause-refused c = λ setups are.
    c.if-not-add_readers.ensures.refused refl are.by_readers are.readers
