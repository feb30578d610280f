-- The feature levels that the extended profile knows besides those that the controller tells: those
-- of setup data, and those that readers tell (this profile).
use Rattle.mdb_msgs.specs.declared.command.ReaderUnit.{ReaderUnit}
use Rattle.mdb_msgs.specs.declared.setups.Setups.{Setups}
use Rattle.mdb_msgs.specs.Setups.{reader_known}
use Rattle.mdb_bus.specs.declared.levels.ReaderLevels.{ReaderLevels}
use Rattle.std.specs.Option.{option_or}
use Rattle.mdb_msgs.specs.declared.command.Command.{Command}
use Rattle.mdb_msgs.specs.declared.command.ReaderUnit.TheVariants.{First, Second}
use Rattle.mdb_msgs.specs.declared.reply.Reply.{Reply}
use Rattle.mdb_msgs.specs.ExtendedLevels.{last_level}
use Rattle.mdb_bus.specs.declared.levels.Levels.{Levels}
use Rattle.mdb_msgs.specs.declared.command.Command.TheVariants as commands
use Rattle.mdb_msgs.specs.declared.reply.Reply.TheVariants as replies

-- the feature levels of a reader that setup data tell
abbrev pub levels_in : Setups → ReaderUnit → ReaderLevels
levels_in setups unit =
    let known = reader_known setups unit in record { asked = known.asked; told = known.told }

-- what each reader has last told of its feature level (Z2), heard or not, once a reply is whole
abbrev pub levels_answered : Command → Reply → Levels → Levels
levels_answered (commands.Reader First command) (replies.Reader list) levels =
    record levels {
      first = record levels.first {
        told = option_or (last_level list.messages) levels.first.told;
      };
    }
levels_answered (commands.Reader Second command) (replies.Reader list) levels =
    record levels {
      second = record levels.second {
        told = option_or (last_level list.messages) levels.second.told;
      };
    }
levels_answered _ _ levels = levels
