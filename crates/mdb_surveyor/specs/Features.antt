-- Whose features a stretch tells (this profile; ENABLE OPTIONS by MDB/ICP 4.3, cashless device).
-- They
-- count by the extended profile alone.
use Rattle.std.specs.Prelude.{Bool, true, false, Option, Some}
use Rattle.mdb_msgs.specs.declared.command.ReaderCommand.{ReaderCommand}
use Rattle.mdb_msgs.specs.declared.command.ReaderCommand.TheVariants as readers
use Rattle.mdb_msgs.specs.declared.command.ReaderUnit.{ReaderUnit}
use Rattle.mdb_msgs.specs.declared.command.ReaderUnit.TheVariants.{First, Second}
use Rattle.mdb_msgs.specs.Setups.{reader_known}
use Rattle.mdb_bus.specs.declared.act.Act.{Act}
use Rattle.mdb_bus.specs.declared.act.Act.TheVariants as acts
use Rattle.mdb_bus.specs.declared.features.KnownFeatures.{KnownFeatures}
use Rattle.mdb_bus.specs.declared.scope.Beginning.{Beginning}
use Rattle.mdb_bus.specs.declared.scope.Beginning.TheVariants.{PowerOn, Joined}
use Rattle.mdb_machine.specs.Past.{taken_by}
use Rattle.mdb_cashless.specs.ReaderFacts.{own_of}

-- as a stretch begins: those that its setup data tell, and at power-on none
abbrev pub features_before : Beginning → KnownFeatures
features_before (PowerOn profile) = record { first = false; second = false }
features_before (Joined setups profile) = record {
  first = (reader_known setups First).features;
  second = (reader_known setups Second).features;
}

-- What a command that the reader takes makes of whether its features are told: RESET switches all
-- off, and ENABLE OPTIONS tells them.
abbrev pub told_taking : Option ReaderCommand → Bool → Bool
told_taking (Some readers.Reset) told = false
told_taking (Some (readers.EnableOptions list)) told = true
told_taking command told = told

-- of a reader, after an act: a break switches all features off too
abbrev pub reader_told_by : ReaderUnit → Act → Bool → Bool
reader_told_by unit (acts.Break length) told = false
reader_told_by unit act told = told_taking (own_of unit (taken_by act)) told

-- of both
abbrev pub features_after : Act → KnownFeatures → KnownFeatures
features_after act features = record {
  first = reader_told_by First act features.first;
  second = reader_told_by Second act features.second;
}

-- those of a reader
abbrev pub features_at : ReaderUnit → KnownFeatures → Bool
features_at First features = features.first
features_at Second features = features.second
