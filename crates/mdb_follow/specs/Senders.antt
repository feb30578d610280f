-- Who sends an act, and so is to blame where no state allows it (this profile).
use Rattle.std.specs.Prelude.{Some}
use Rattle.mdb_msgs.specs.Commands.{device_of}
use Rattle.mdb_bus.specs.declared.act.Act.{Act}
use Rattle.mdb_bus.specs.declared.act.Act.TheVariants as acts
use Rattle.mdb_bus.specs.declared.fault.Blame.{Blame}
use Rattle.mdb_bus.specs.declared.fault.Blame.TheVariants as blame
use Rattle.mdb_bus.specs.LinkFaults.{blame_on}

-- Who sends an act: a peripheral answers, and all else is the controller's. Foreign traffic may be
-- a peripheral's too, but every state allows it, so nobody is to blame for it here.
abbrev pub sender_of : Act → Blame
sender_of (acts.Ack command) = blame_on (Some (device_of command))
sender_of (acts.Nak command) = blame_on (Some (device_of command))
sender_of (acts.Reply command reply) = blame_on (Some (device_of command))
sender_of (acts.Repeat command reply) = blame_on (Some (device_of command))
sender_of _ = blame.Controller
