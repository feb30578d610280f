-- The fields of a record.
use Rattle.std.specs.Prelude.{ℕ, List}
use Rattle.csv.specs.Records as csv
use Rattle.mdb_records.specs.declared.record.Fields.{Fields}
use Rattle.mdb_records.specs.declared.record.Fields.TheVariants.{Csv, Line}
use Rattle.mdb_records.specs.declared.record.Record.{Record}
use Rattle.mdb_records.specs.Parts.{parted}

-- the fields, whoever parted them
abbrev pub fields_in : Fields → List (List ℕ)
fields_in (Line text ends) = parted 0 ends.now text.now
fields_in (Csv row) = csv.fields_of row.now

-- the fields of a record
abbrev pub fields_of : Record → List (List ℕ)
fields_of value = fields_in value.fields
