-- The stretch that runs has the report on its rows.
use Rattle.mdb_surveyor.proofs.Words.{arith}
use Rattle.mdb_surveyor.proofs.Standing.{runs}
use Rattle.mdb_surveyor.proofs.surveyor.Surveyor.stretch.Goals as goal

pub running-requires : goal.running-requires
running-requires c = omega (arith, c.args.self.now.few, c.report_before.ensures.rows)

pub returns : goal.returns
returns c scope rows ended on =
    runs c.args.self.now scope rows ended c.report_before.result c.running.result on
    c.report_before.ensures.going c.running.ensures
