-- The machine of each device: what the device and the controller may do.
use Rattle.mdb_msgs.specs.declared.command.Device.{Device}
use Rattle.mdb_bus.specs.declared.scope.Beginning.{Beginning}
use Rattle.mdb_machine.specs.Machine.{Machine}
use Rattle.mdb_follow.specs.Devices.{spec_of}

-- the states of a device and the controller's dealings with it
abbrev pub StateOf : Device → Type 0
StateOf device = (spec_of device).State

-- the machine of a device, in a recording that begins so
abbrev pub machine_of : Beginning → (device : Device) → Machine (StateOf device)
machine_of begins device = (spec_of device).machine begins
