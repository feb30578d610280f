-- What a row tells of commands.
use Rattle.std.specs.Prelude.{Option, Some, None}
use Rattle.mdb_msgs.specs.declared.command.Command.{Command}
use Rattle.mdb_bus.specs.declared.act.Act.{Act}
use Rattle.mdb_bus.specs.declared.act.Act.TheVariants.{Ask}

-- the command that is asked by an act that was ended, if one is
abbrev pub asked_in : Option Act → Option Command
asked_in (Some (Ask command)) = Some command
asked_in other = None
