-- How the bytes of a reply are read (this profile): a reader's by the feature levels that it and
-- the controller have told each other.
use Rattle.std.specs.Prelude.{ℕ, List}
use Rattle.mdb_msgs.specs.declared.command.Command.{Command}
use Rattle.mdb_msgs.specs.declared.command.Command.TheVariants.{Reader}
use Rattle.mdb_msgs.specs.declared.command.ReaderUnit.TheVariants.{First, Second}
use Rattle.mdb_msgs.specs.declared.fault.MsgFault.{MsgFault}
use Rattle.mdb_msgs.specs.declared.reading.Ids.TheVariants.{Full}
use Rattle.mdb_msgs.specs.declared.reply.Reply.{Reply}
use Rattle.mdb_msgs.specs.Readings.{base}
use Rattle.mdb_msgs.specs.Replies.{IsIn, IsReadFault}
use Rattle.mdb_bus.specs.declared.format.Format.{Format}
use Rattle.mdb_bus.specs.declared.format.Format.TheVariants.{As, Or, Open}
use Rattle.mdb_bus.specs.declared.levels.Levels.{Levels}
use Rattle.mdb_bus.specs.declared.levels.ReaderLevels.{ReaderLevels}
use Rattle.mdb_bus.specs.declared.scope.Beginning.{Beginning}
use Rattle.mdb_bus.specs.declared.scope.Profile.{Profile}
use Rattle.mdb_bus.specs.declared.scope.Profile.TheVariants.{Base, Extended}
use Rattle.mdb_bus.specs.Scopes.{no_level, profile_of}
use Rattle.mdb_bus.specs.ExtendedFormats.{HasFaultInBoth, HasOpenFault, IsReadInEither, IsReadOpen, format_at, short, untold_format}

-- what the reader of a command and the controller have told each other; nothing of another device
abbrev pub levels_for : Command → Levels → ReaderLevels
levels_for (Reader First command) levels = levels.first
levels_for (Reader Second command) levels = levels.second
levels_for _ levels = no_level

-- the format of a reply to a command, by a profile
abbrev pub format_by : Profile → Format → Levels → Command → Format
format_by Base untold levels command = As base
format_by Extended untold levels (Reader unit command) =
    let told = levels_for (Reader unit command) levels in format_at untold told.asked told.told
format_by Extended untold levels command = As (short Full)

-- the format of a reply to a command
abbrev pub format_for : Beginning → Levels → Command → Format
format_for begins = format_by (profile_of begins) (untold_format begins)

-- A reply is read in a format: in one reading; in a second one where its bytes have a fault in the
-- first; an open one in any, where all readings say the same of what counts.
abbrev pub IsReadAs : Format → Command → Reply → Type 0
IsReadAs (As reading) command reply = IsIn reading command reply
IsReadAs (Or first second) command reply = IsReadInEither first second command reply
IsReadAs Open command reply = IsReadOpen command reply

-- Data bytes have a fault in a format: that of the first reading, where they have one in the second
-- too. Open ones have one where they have one in each reading, or where they are two replies that
-- don't say the same of what counts.
abbrev pub HasFault : Format → Command → List ℕ → MsgFault → Type 0
HasFault (As reading) command bytes fault = IsReadFault reading command bytes fault
HasFault (Or first second) command bytes fault = HasFaultInBoth first second command bytes fault
HasFault Open command bytes fault = HasOpenFault command bytes fault
