-- The first fault is the offence of the rows, and there is one where they have it.
use Rattle.mdb_surveyor.proofs.OneSurvey.{fault_is, offence_is}
use Rattle.mdb_surveyor.proofs.laws.only.the_first_fault_is_the_offence_of_the_rows.Goals as goal

pub returns-clause-is : goal.returns-clause-is
returns-clause-is c scope rows ended last fault on =
    fault_is scope rows ended on.running on.place fault on.lead

pub returns-clause-has : goal.returns-clause-has
returns-clause-has c = offence_is c.fronts_of_reached_rows_are_reached.ensures
    c.lists_have_one_offence.ensures
