-- The fault that is shown is one of the link, which names only devices that are followed.
use Rattle.mdb_show.proofs.laws.shown_faults_are_blamed_on_devices_that_are_followed.Goals as goal

pub returns : goal.returns
returns c form scope records fault text device is blamed =
    c.faults_are_blamed_on_devices_that_are_followed.ensures scope is.stops.pieces is.row
    fault.rule fault.blame device is.stops.list.in_order is.stops.is blamed
