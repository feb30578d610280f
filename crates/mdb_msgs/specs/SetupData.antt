-- What a device's answer to SETUP tells of how it is set up, and what the controller's SETUP config
-- and ENABLE OPTIONS tell of a reader (MDB/ICP 4.3, coin changer, bill validator and cashless
-- device; that it may be known from an earlier recording, this profile).
use Rattle.std.specs.Prelude.{◌≡◌, ◌⊎◌, ℕ, Bool, true, false, List, [], ◌∷◌, Option, Some, None, option_map, is_some}
use Rattle.std.specs.Option.{option_or}
use Rattle.mdb_words.specs.BlockFaults.{IsBlock}
use Rattle.mdb_msgs.specs.declared.command.BillCommand.TheVariants as bill
use Rattle.mdb_msgs.specs.declared.command.ChangerCommand.TheVariants as changer
use Rattle.mdb_msgs.specs.declared.command.Command.{Command}
use Rattle.mdb_msgs.specs.declared.command.Command.TheVariants as command
use Rattle.mdb_msgs.specs.declared.command.Device.{Device}
use Rattle.mdb_msgs.specs.declared.command.Device.TheVariants.{Changer, Bill, Reader}
use Rattle.mdb_msgs.specs.declared.command.ReaderCommand.TheVariants as reader
use Rattle.mdb_msgs.specs.declared.command.ReaderUnit.{ReaderUnit}
use Rattle.mdb_msgs.specs.declared.command.ReaderUnit.TheVariants.{First, Second}
use Rattle.mdb_msgs.specs.declared.fault.MsgFault.{MsgFault}
use Rattle.mdb_msgs.specs.declared.reply.reader.ReaderMsg.{ReaderMsg}
use Rattle.mdb_msgs.specs.declared.reply.reader.ReaderMsg.TheVariants as message
use Rattle.mdb_msgs.specs.declared.reply.Reply.{Reply}
use Rattle.mdb_msgs.specs.declared.reply.Reply.TheVariants as reply
use Rattle.mdb_msgs.specs.declared.setups.ReaderConfig.{ReaderConfig}
use Rattle.mdb_msgs.specs.declared.setups.ReaderSetup.{ReaderSetup}
use Rattle.mdb_msgs.specs.declared.setups.Setups.{Setups}
use Rattle.mdb_msgs.specs.Commands.{EnablesMore, Spells, device_of}
use Rattle.mdb_msgs.specs.ExtendedLevels.{last_level}
use Rattle.mdb_msgs.specs.Readings.{base, early, early_long}
use Rattle.mdb_msgs.specs.Replies.{IsIn, IsReadFault, reply_bytes}
use Rattle.mdb_msgs.specs.ReplyFaults.{SpellsReply}
use Rattle.mdb_msgs.specs.Setups.{reader_known}
use Rattle.mdb_msgs.specs.Settings.{with_reader}

-- the command asks the device how it is set up: SETUP, of a reader SETUP config
abbrev pub IsSetup : Device → Command → Type 0
IsSetup Changer asked = asked ≡ command.Changer changer.Setup
IsSetup Bill asked = asked ≡ command.Bill bill.Setup
IsSetup (Reader unit) asked = (level : ℕ) × (columns : ℕ) × (rows : ℕ) × (display : ℕ)
    × (asked ≡ command.Reader unit (reader.SetupConfig level columns rows display))

-- what a config message says of how the reader is set up
abbrev pub config_in : ReaderMsg → Option ReaderConfig
config_in (message.Config level code scale decimals response options) =
    Some (record { scale = scale; decimals = decimals; response = response })
config_in other = None

-- the one, or where there is none the other
abbrev pub or_else : Option ReaderConfig → Option ReaderConfig → Option ReaderConfig
or_else (Some config) other = Some config
or_else None other = other

-- what the last config message of an answer says, if it has one
abbrev pub last_config : List ReaderMsg → Option ReaderConfig
last_config [] = None
last_config (first ∷ messages) = or_else (last_config messages) (config_in first)

-- what is known with the config of a reader, where this is known of the others
abbrev pub with_config : Setups → ReaderUnit → ReaderConfig → Setups
with_config known First config =
    record known { first_reader = record known.first_reader { config = Some config } }
with_config known Second config =
    record known { second_reader = record known.second_reader { config = Some config } }

-- what is known with such an answer of the device: its setup table, of a reader what its last
-- config message says
abbrev pub known_with : Setups → Device → Reply → Option Setups
known_with known Changer (reply.ChangerSetup table) = Some (record known { changer = Some table })
known_with known Bill (reply.BillSetup table) = Some (record known { bill = Some table })
known_with known (Reader unit) (reply.Reader list) =
    option_map (with_config known unit) (last_config list.messages)
known_with known device answer = None

-- what is known of a reader with the level that these messages tell: a level that is known goes
-- before it
abbrev pub with_told : ReaderSetup → List ReaderMsg → ReaderSetup
with_told known messages = record known { told = option_or known.told (last_level messages) }

-- the same of any device's answer: only a reader tells a level
abbrev pub leveled : Device → Reply → Setups → Setups
leveled (Reader unit) (reply.Reader list) known =
    with_reader known unit (with_told (reader_known known unit) list.messages)
leveled device answer known = known

-- A told answer is read so: as the base profile reads it, or as the extended one does where no
-- feature level is known.
abbrev pub IsToldAs : Bool → Command → Reply → Type 0
IsToldAs false asked answer = IsIn base asked answer
IsToldAs true asked answer =
    IsIn early asked answer
    ⊎ (IsIn early_long asked answer
    × (fault : MsgFault) × IsReadFault early asked (reply_bytes answer) fault)

-- These bytes, their sum included, are the block of a device's answer to its SETUP, by the extended
-- profile or by the base one, and so much is known with it, where this was known before.
pub record IsSetupOf (extended : Bool) (device : Device) (bytes : List ℕ) (before after : Setups)
    : Type 0 where
  pub block : IsBlock bytes
  pub asked : Command
  pub asks : IsSetup device asked
  pub answer : Reply
  pub reading : IsToldAs extended asked answer
  pub spells : SpellsReply asked answer bytes
  pub told : option_map (leveled device answer) (known_with before device answer) ≡ Some after

-- what is known with a block of the controller, if it tells anything of a reader: SETUP config its
-- feature level (Y2), ENABLE OPTIONS that its features are known
abbrev pub known_by : Setups → Command → Option Setups
known_by known (command.Reader unit (reader.SetupConfig level columns rows display)) =
    Some (with_reader known unit (record (reader_known known unit) { asked = Some level }))
known_by known (command.Reader unit (reader.EnableOptions options)) =
    Some (with_reader known unit (record (reader_known known unit) { features = true }))
known_by known other = None

-- whether that is known
abbrev pub has_ask : Setups → Command → Bool
has_ask known (command.Reader unit (reader.SetupConfig level columns rows display)) =
    is_some (reader_known known unit).asked
has_ask known (command.Reader unit (reader.EnableOptions options)) =
    (reader_known known unit).features
has_ask known other = false

-- These bytes, their sum included, are a block of the controller to a reader that tells something
-- that wasn't known before, and so much is known with it. It asks for no money that isn't followed.
pub record IsToldBy (device : Device) (bytes : List ℕ) (before after : Setups) : Type 0 where
  pub block : IsBlock bytes
  pub command : Command
  pub spells : Spells command bytes
  pub to : device_of command ≡ device
  pub followed : EnablesMore command → ⊥
  pub new : has_ask before command ≡ false
  pub told : known_by before command ≡ Some after
