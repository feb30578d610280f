-- A reader that is followed is refused where what is told of it is.
use Rattle.mdb_page.proofs.options.add_reader.Goals as goal

pub returns-clause-refused : goal.returns-clause-refused
returns-clause-refused c = λ no after adds. c.add_told.ensures.refused no after adds.is
