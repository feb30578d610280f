-- The two cashless readers (MDB/ICP 4.3, cashless devices #1 at 10H and #2 at 60H).
use Rattle.std.specs.Prelude.{ℕ, ◌==◌, Option, Some, None, if◌then◌else◌}
use Rattle.mdb_msgs.specs.declared.command.Command.{Command}
use Rattle.mdb_msgs.specs.declared.command.Command.TheVariants.{Reader}
use Rattle.mdb_msgs.specs.declared.command.ReaderCommand.{ReaderCommand}
use Rattle.mdb_msgs.specs.declared.command.ReaderUnit.{ReaderUnit}
use Rattle.mdb_msgs.specs.declared.command.ReaderUnit.TheVariants.{First, Second}

-- the reader of a number: 0 is the first, and any other number the second
abbrev pub unit_of : ℕ → ReaderUnit
unit_of number = if number == 0 then First else Second

-- the command to this reader that a command is
abbrev pub own : ReaderUnit → Command → Option ReaderCommand
own First (Reader First command) = Some command
own Second (Reader Second command) = Some command
own unit command = None
