-- Which device isn't followed at a row that breaks the rule `Profile` (this profile): the one that
-- sent the row, or the one to which the controller's block is.
use Rattle.std.specs.Prelude.{ℕ, Option, Some, None}
use Rattle.mdb_msgs.specs.declared.command.Device.{Device}
use Rattle.mdb_msgs.specs.declared.command.Device.TheVariants.{Changer, Bill, Reader}
use Rattle.mdb_msgs.specs.declared.command.ReaderUnit.TheVariants.{First, Second}
use Rattle.mdb_msgs.specs.Needs.{device_at}
use Rattle.mdb_bus.specs.declared.fault.Blame.{Blame}
use Rattle.mdb_bus.specs.declared.fault.Blame.TheVariants as blames
use Rattle.mdb_bus.specs.declared.fault.Rule.{Rule}
use Rattle.mdb_bus.specs.declared.fault.Rule.TheVariants as rules

-- the device to which a block is that begins with this byte
abbrev pub device_begun : Option ℕ → Option Device
device_begun None = None
device_begun (Some byte) = device_at byte

-- the device that sent a row, or the one to which the last block of the controller is, which begins
-- with this byte
abbrev pub device_of : Blame → Option ℕ → Option Device
device_of blames.Controller begun = device_begun begun
device_of blames.Changer begun = Some Changer
device_of blames.Bill begun = Some Bill
device_of blames.Cashless begun = Some (Reader First)
device_of blames.Cashless2 begun = Some (Reader Second)
device_of blames.Other begun = None

-- the device that isn't followed; None where a row breaks any other rule
abbrev pub unfollowed : Rule → Blame → Option ℕ → Option Device
unfollowed rules.Profile blamed begun = device_of blamed begun
unfollowed broken blamed begun = None
