-- A block is read as the one command that it spells, or with its one fault.
use Rattle.mdb_msgs.proofs.OneCommand.{only_command, only_command_fault}
use Rattle.mdb_msgs.proofs.command_reading.read_command.Goals as goal

pub returns-clause-only : goal.returns-clause-only
returns-clause-only c = only_command _ c.content.ensures.block c.command_of.result
    c.command_of.ensures.command c.command_of.ensures.fault

pub returns-clause-refused : goal.returns-clause-refused
returns-clause-refused c = only_command_fault _ c.content.ensures.block c.command_of.result
    c.command_of.ensures.command c.command_of.ensures.fault
