-- How `Records` sets up csv's reader.
use Rattle.std.specs.Prelude.{◌≡◌, true, false, is_none, None, Option, Some}
use Rattle.std.specs.Option.{ForSome}
use Rattle.csv.specs.Reading.{is_flexible, names_headers, reader_headers, reader_trim, took_first}
use Rattle.csv.specs.declared.reader.Reader.{Reader}
use Rattle.csv.specs.declared.reader.Trim.TheVariants as trim
use Rattle.mdb_records.specs.declared.lines.Lines.{Lines}
use Rattle.mdb_records.specs.declared.stage.Stage.{Stage}
use Rattle.mdb_records.specs.declared.stage.Stage.TheVariants as stage

-- each read of the reader is of one record, of any length, which it gives as it is
pub record ReadsWhatStands {R : Type 0} (reader : Reader R) : Type 0 where
  pub untrimmed : reader_trim reader ≡ trim.None
  pub flexible : is_flexible reader ≡ true
  pub unnamed : names_headers reader ≡ false
  pub headless : took_first reader ≡ false → is_none (reader_headers reader) ≡ true

-- the reader that csv reads with, where it does
abbrev pub reader_in : {R : Type 0} → Stage R → Option (Reader (Lines R))
reader_in (stage.Lines lines) = None
reader_in (stage.Csv reader before) = Some reader
reader_in stage.Between = None

-- such a reader reads so
abbrev pub IsSetUp : {R : Type 0} → Stage R → Type 0
IsSetUp value = ForSome (reader_in value) ReadsWhatStands
