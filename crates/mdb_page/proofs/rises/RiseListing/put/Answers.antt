-- One entry more is put, or not.
use Rattle.mdb_page.proofs.RiseLists.{puts, puts_not}
use Rattle.mdb_page.proofs.rises.RiseListing.put.Goals as goal

pub returns-in-Some-clause-listed : goal.returns-in-Some-clause-listed
returns-in-Some-clause-listed c skip all before has =
    puts c.args.rise has c.in-Some.place c.in-Some.ensures.moved

pub returns-in_default-clause-listed : goal.returns-in_default-clause-listed
returns-in_default-clause-listed c skip all before has =
    puts_not c.args.rise has c.in_default.ensures.moved
