-- The numbers by which a verdict, or why there is none, is told.
use Rattle.std.specs.Prelude.{ℕ}
use Rattle.mdb_words.specs.declared.row.RowFault.{RowFault}
use Rattle.mdb_words.specs.declared.row.RowFault.TheVariants.{FieldCount, BadTime, BadLine, BadValue}
use Rattle.mdb_text.specs.declared.outcome.Outcome.{Outcome}
use Rattle.mdb_text.specs.declared.outcome.Outcome.TheVariants.{Yes, No}
use Rattle.mdb_verdict.specs.declared.fault.RunFault.{RunFault}
use Rattle.mdb_verdict.specs.declared.fault.RunFault.TheVariants.{BadRow, TooLong, Read}

-- the code of a verdict
abbrev pub verdict_code : Outcome → ℕ
verdict_code (Yes report) = 0
verdict_code (No offence) = 1

-- how many rows a yes has, or which row can't be
abbrev pub verdict_row : Outcome → ℕ
verdict_row (Yes report) = report.rows
verdict_row (No offence) = offence.row

-- the code of why there is no verdict
abbrev pub fault_code : RunFault → ℕ
fault_code (BadRow row fault) = 2
fault_code TooLong = 3
fault_code Read = 4
fault_code other = 5

-- the row that is none, and else 0
abbrev pub fault_row : RunFault → ℕ
fault_row (BadRow row fault) = row
fault_row other = 0

-- why a row is none, and else 0
abbrev pub row_fault_number : RowFault → ℕ
row_fault_number FieldCount = 1
row_fault_number BadTime = 2
row_fault_number BadLine = 3
row_fault_number BadValue = 4

abbrev pub fault_number : RunFault → ℕ
fault_number (BadRow row fault) = row_fault_number fault
fault_number other = 0
