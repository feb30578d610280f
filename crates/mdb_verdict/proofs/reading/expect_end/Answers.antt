-- No record stands after the last row, or there is one.
use Rattle.mdb_verdict.proofs.Endings.{first_found, none_left}
use Rattle.mdb_verdict.proofs.reading.expect_end.Goals as goal

pub returns-in-End-clause-ends : goal.returns-in-End-clause-ends
returns-in-End-clause-ends g c rest to_come =
    none_left _ (c.refill.ensures.read rest to_come) c.refill.ensures.fits c.in-End.is

pub returns-in-More-clause-ends : goal.returns-in-More-clause-ends
returns-in-More-clause-ends g c rest to_come =
    first_found _ (c.refill.ensures.read rest to_come) c.refill.ensures.fits c.in-More.is
