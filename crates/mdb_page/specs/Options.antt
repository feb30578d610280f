-- How the options say that a recording is taken.
use Rattle.std.specs.Prelude.{◌≡◌, ◌≢◌, ◌≤◌, ℕ, List, [], Bool, false, true, not, nat_eq, slice_index_or, take, if◌then◌else◌}
use Rattle.std.specs.Option.{option_or}
use Rattle.mdb_msgs.specs.declared.command.Device.{Device}
use Rattle.mdb_msgs.specs.declared.command.Device.TheVariants.{Changer, Bill, Reader}
use Rattle.mdb_msgs.specs.declared.command.ReaderUnit.TheVariants.{First, Second}
use Rattle.mdb_msgs.specs.declared.device_set.DeviceSet.{DeviceSet}
use Rattle.mdb_msgs.specs.declared.setups.ReaderSetup.{ReaderSetup}
use Rattle.mdb_msgs.specs.declared.setups.Setups.{Setups}
use Rattle.mdb_msgs.specs.DeviceSets.{has}
use Rattle.mdb_msgs.specs.SetupData.{IsSetupOf, IsToldBy}
use Rattle.mdb_msgs.specs.Settings.{nothing_known, with_level}
use Rattle.mdb_msgs.specs.declared.command.ReaderUnit.{ReaderUnit}
use Rattle.mdb_bus.specs.declared.scope.Beginning.TheVariants.{Joined, PowerOn}
use Rattle.mdb_bus.specs.declared.scope.Profile.{Profile}
use Rattle.mdb_bus.specs.declared.scope.Profile.TheVariants.{Base, Extended}
use Rattle.mdb_bus.specs.declared.scope.Scope.{Scope}
use Rattle.mdb_bus.specs.Scopes.{no_levels}
use Rattle.mdb_page.specs.declared.options.PageOptions.{PageOptions}
use Rattle.mdb_page.specs.declared.options.PageReader.{PageReader}
use Rattle.mdb_page.specs.declared.options.PageSetup.{PageSetup}

-- whether a mark isn't 0
abbrev pub is_set : ℕ → Bool
is_set mark = not (nat_eq mark 0)

-- the profile that a mark asks for
abbrev pub profile_by : ℕ → Profile
profile_by mark = if is_set mark then Extended else Base

-- the devices that are marked, in the order of a report
abbrev pub devices_of : List ℕ → DeviceSet
devices_of marks = record {
  changer = is_set (slice_index_or marks 0 0);
  bill = is_set (slice_index_or marks 1 0);
  first_reader = is_set (slice_index_or marks 2 0);
  second_reader = is_set (slice_index_or marks 3 0);
}

-- the first bytes given, as many as are counted, are the block of the device's answer to SETUP, by
-- the extended profile or by the base one, and the device isn't left out
pub record IsAnswerOf (extended : Bool) (left_out : DeviceSet) (device : Device)
    (answer : PageSetup) (before after : Setups) : Type 0 where
  pub followed : has left_out device ≡ false
  pub fits : answer.count ≤ 36
  pub is : IsSetupOf extended device (take answer.count answer.bytes) before after

-- what is known with what is given of a device: with no bytes, what was known before
pub record Adds (extended : Bool) (left_out : DeviceSet) (device : Device) (answer : PageSetup)
    (before after : Setups) : Type 0 where
  pub not_given : answer.count ≡ 0 → after ≡ before
  pub given : answer.count ≢ 0 → IsAnswerOf extended left_out device answer before after

-- no block
abbrev pub nothing_given : PageSetup
nothing_given = record { count = 0; bytes = [] }

-- what is given of a device, by its place in a report
abbrev pub given_at : List PageSetup → ℕ → PageSetup
given_at answers place = slice_index_or answers place nothing_given

-- nothing is given of any device
abbrev pub GivesNone : List PageSetup → Type 0
GivesNone answers = ((given_at answers 0).count ≡ 0) × ((given_at answers 1).count ≡ 0)
    × ((given_at answers 2).count ≡ 0) × ((given_at answers 3).count ≡ 0)

-- what is known with a block of the controller to a reader, if one is given
pub record AddsAsk (unit : ReaderUnit) (block : PageSetup) (before after : Setups) : Type 0 where
  pub not_given : block.count ≡ 0 → after ≡ before
  pub given : block.count ≢ 0 → (block.count ≤ 36)
      × IsToldBy (Reader unit) (take block.count block.bytes) before after

-- and with a level, if one is given
pub record AddsLevel (unit : ReaderUnit) (level : ℕ) (before after : Setups) : Type 0 where
  pub is : level ≤ 3
  pub not_given : level ≡ 0 → after ≡ before
  pub given : level ≢ 0 → after ≡ with_level before unit level

-- nothing is given of a reader's level and options
abbrev pub TellsNothing : PageReader → Type 0
TellsNothing reader = (reader.level ≡ 0) × (reader.config.count ≡ 0) × (reader.options.count ≡ 0)

-- What is known with what is given of a reader's level and options, the level first.
pub record IsTold (unit : ReaderUnit) (told : PageReader) (before after : Setups) : Type 0 where
  pub with_level : Setups
  pub with_config : Setups
  pub level : AddsLevel unit told.level before with_level
  pub config : AddsAsk unit told.config with_level with_config
  pub options : AddsAsk unit told.options with_config after

-- nothing is given of a reader that is left out
pub record AddsTold (left_out : DeviceSet) (unit : ReaderUnit) (told : PageReader)
    (before after : Setups) : Type 0 where
  pub followed : has left_out (Reader unit) ≡ true → TellsNothing told
  pub is : IsTold unit told before after

-- what is given of a reader, by its place
abbrev pub told_at : List PageReader → ℕ → PageReader
told_at readers place = slice_index_or readers place (record {
  level = 0;
  config = nothing_given;
  options = nothing_given;
})

-- nothing is given of both
abbrev pub GivesNothing : List PageReader → Type 0
GivesNothing readers = TellsNothing (told_at readers 0) × TellsNothing (told_at readers 1)

-- So much is known by the answers of the four devices, in the order of a report: of each device
-- what its own answer tells.
pub record AreAnswers (extended : Bool) (left_out : DeviceSet) (answers : List PageSetup)
    (setups : Setups) : Type 0 where
  pub by_changer : Setups
  pub by_bill : Setups
  pub by_first : Setups
  pub by_second : Setups
  pub changer : Adds extended left_out Changer (given_at answers 0) nothing_known by_changer
  pub bill : Adds extended left_out Bill (given_at answers 1) nothing_known by_bill
  pub first : Adds extended left_out (Reader First) (given_at answers 2) nothing_known by_first
  pub second : Adds extended left_out (Reader Second) (given_at answers 3) nothing_known by_second
  pub together : setups ≡ record {
    changer = by_changer.changer;
    bill = by_bill.bill;
    first_reader = by_first.first_reader;
    second_reader = by_second.second_reader;
  }

-- and so much with what is given of the levels and options of the two readers
pub record AreTold (left_out : DeviceSet) (readers : List PageReader) (before after : Setups)
    : Type 0 where
  pub with_first : Setups
  pub first : AddsTold left_out First (told_at readers 0) before with_first
  pub second : AddsTold left_out Second (told_at readers 1) with_first after

-- what is known of a reader by its answer, and by what is told of it, which goes before the level
-- of the answer
abbrev pub reader_with : ReaderSetup → ReaderSetup → ReaderSetup
reader_with answer told = record {
  config = answer.config;
  asked = told.asked;
  told = option_or told.told answer.told;
  features = told.features;
}

-- what is known by answers, and by what is told of the readers
abbrev pub both : Setups → Setups → Setups
both answers told = record answers {
  first_reader = reader_with answers.first_reader told.first_reader;
  second_reader = reader_with answers.second_reader told.second_reader;
}

-- The setup data are those that the options give, and no others.
pub record AreSetups (left_out : DeviceSet) (options : PageOptions) (setups : Setups)
    : Type 0 where
  pub by_answers : Setups
  pub by_readers : Setups
  pub answers : AreAnswers (is_set options.extended) left_out options.setups by_answers
  pub readers : AreTold left_out options.readers nothing_known by_readers
  pub together : setups ≡ both by_answers by_readers

-- A recording that is taken so is followed by the profile that is asked for. It begins at power-on,
-- with nothing given. Or it begins in mid-session, with the setup data known that are given, of
-- which the base profile has no levels and options. The devices are left out that are marked, and
-- no feature level is known that was told before.
pub record IsTakenSo (options : PageOptions) (scope : Scope) : Type 0 where
  pub power_on : options.joined ≡ 0 → (scope.begins ≡ PowerOn (profile_by options.extended))
      × GivesNone options.setups × GivesNothing options.readers
  pub joined : options.joined ≢ 0 → (setups : Setups)
      × (scope.begins ≡ Joined setups (profile_by options.extended))
      × AreSetups (devices_of options.without) options setups
      × (options.extended ≡ 0 → GivesNothing options.readers)
  pub without : scope.without ≡ devices_of options.without
  pub levels : scope.levels ≡ no_levels
