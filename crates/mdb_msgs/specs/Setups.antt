-- What is known from elsewhere of how the devices are set up (this profile).
use Rattle.std.specs.Prelude.{Option}
use Rattle.mdb_msgs.specs.declared.command.ReaderUnit.{ReaderUnit}
use Rattle.mdb_msgs.specs.declared.command.ReaderUnit.TheVariants.{First, Second}
use Rattle.mdb_msgs.specs.declared.setups.ReaderConfig.{ReaderConfig}
use Rattle.mdb_msgs.specs.declared.setups.ReaderSetup.{ReaderSetup}
use Rattle.mdb_msgs.specs.declared.setups.Setups.{Setups}

-- what is known of a reader
abbrev pub reader_known : Setups → ReaderUnit → ReaderSetup
reader_known setups First = setups.first_reader
reader_known setups Second = setups.second_reader

-- and of its config
abbrev pub config_known : Setups → ReaderUnit → Option ReaderConfig
config_known setups unit = (reader_known setups unit).config
