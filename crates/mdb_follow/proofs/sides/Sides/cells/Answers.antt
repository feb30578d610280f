-- The cell of each device has the ranges of its side.
use Rattle.mdb_follow.proofs.Words.{First, Second}
use Rattle.mdb_msgs.specs.declared.command.Device.TheVariants as devices
use Rattle.mdb_follow.proofs.ByDevice.{each}
use Rattle.mdb_follow.proofs.sides.Sides.cells.Goals as goal

pub returns-clause-exact : goal.returns-clause-exact
returns-clause-exact c begins acts on =
    each _ (c.ranges-2.ensures.exact begins acts (on devices.Changer))
    (c.ranges-3.ensures.exact begins acts (on devices.Bill))
    (c.ranges-4.ensures.exact begins acts (on (devices.Reader First)))
    (c.ranges-5.ensures.exact begins acts (on (devices.Reader Second)))

pub returns-clause-within : goal.returns-clause-within
returns-clause-within c limit =
    each _ (c.ranges-2.ensures.within limit) (c.ranges-3.ensures.within limit)
    (c.ranges-4.ensures.within limit) (c.ranges-5.ensures.within limit)
