-- Bytes are read as the one command that they are, or with their one fault.
use Rattle.mdb_msgs.proofs.Words.{refl}
use Rattle.mdb_msgs.proofs.OneCommand.{only_command, only_command_fault}
use Rattle.mdb_msgs.proofs.command_reading.command_of.Goals as goal

pub returns-clause-only : goal.returns-clause-only
returns-clause-only c = only_command c.args.content.now refl c.device_command.result
    c.device_command.ensures.command c.device_command.ensures.fault

pub returns-clause-refused : goal.returns-clause-refused
returns-clause-refused c = only_command_fault c.args.content.now refl c.device_command.result
    c.device_command.ensures.command c.device_command.ensures.fault
