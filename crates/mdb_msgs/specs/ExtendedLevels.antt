-- The feature levels that a reader tells: the extended profile asks for them (MDB/ICP 4.3,
-- cashless device).
use Rattle.std.specs.Prelude.{ℕ, List, [], ◌∷◌, Option, Some, None}
use Rattle.std.specs.Option.{option_or}
use Rattle.mdb_msgs.specs.declared.reply.reader.ReaderMsg.{ReaderMsg}
use Rattle.mdb_msgs.specs.declared.reply.reader.ReaderMsg.TheVariants.{Config}

-- the feature level that a config message tells (Z2), and the last one that messages tell
abbrev pub level_in : ReaderMsg → Option ℕ
level_in (Config level code scale decimals response options) = Some level
level_in _ = None

abbrev pub last_level : List ReaderMsg → Option ℕ
last_level [] = None
last_level (message ∷ messages) = option_or (last_level messages) (level_in message)
