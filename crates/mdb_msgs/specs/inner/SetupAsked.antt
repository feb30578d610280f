-- The command that setup data are an answer to, as they are read. This file serves a private
-- function.
use Rattle.mdb_msgs.specs.declared.command.BillCommand.TheVariants as bill
use Rattle.mdb_msgs.specs.declared.command.ChangerCommand.TheVariants as changer
use Rattle.mdb_msgs.specs.declared.command.Command.{Command}
use Rattle.mdb_msgs.specs.declared.command.Command.TheVariants as command
use Rattle.mdb_msgs.specs.declared.command.Device.{Device}
use Rattle.mdb_msgs.specs.declared.command.Device.TheVariants.{Changer, Bill, Reader}
use Rattle.mdb_msgs.specs.declared.command.ReaderCommand.TheVariants as reader

-- a command that asks the device how it is set up: what a reader is told with it is irrelevant
abbrev pub setup_of : Device → Command
setup_of Changer = command.Changer changer.Setup
setup_of Bill = command.Bill bill.Setup
setup_of (Reader unit) = command.Reader unit (reader.SetupConfig 0 0 0 0)
