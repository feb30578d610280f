-- An answer is an offence or a report, and neither has anything of a device that is left out.
use Rattle.mdb_verdict.proofs.laws.answers_have_nothing_of_devices_left_out.Goals as goal

pub returns-clause-verdict : goal.returns-clause-verdict
returns-clause-verdict c scope limit records offence device is blamed =
    c.offences_are_blamed_on_devices_that_are_followed.ensures scope is.rows is.row offence device
    is.stops blamed

pub returns-clause-nothing : goal.returns-clause-nothing
returns-clause-nothing c scope limit records report is =
    c.reports_have_nothing_of_devices_left_out.ensures scope is.rows report is.has.0
