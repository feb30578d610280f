-- What a record of an input of `replay` is read as. This file serves private functions.
use Rattle.std.specs.Prelude.{◌≢◌, ℕ, List, Result, Ok, Err}
use Rattle.mdb_words.specs.declared.row.RowFault.{RowFault}
use Rattle.mdb_words.specs.declared.row.RowFault.TheVariants.{FieldCount, BadTime, BadLine, BadValue}
use Rattle.mdb_words.specs.Digits.{IsDecimal}
use Rattle.mdb_words.specs.Row.{IsRow}
use Rattle.mdb_words.specs.Refusals.{IsRefusal}
use Rattle.mdb_follow.specs.declared.offence.Offence.{Offence}
use Rattle.mdb_run_search.specs.declared.replay.ReplayFault.{ReplayFault}
use Rattle.mdb_run_search.specs.declared.replay.ReplayFault.TheVariants as faults
use Rattle.mdb_explain.specs.declared.entry.Entry.{Entry}
use Rattle.mdb_explain.specs.declared.entry.Entry.TheVariants as entries
use Rattle.mdb_explain.specs.declared.fault.MarkedFault.{MarkedFault}
use Rattle.mdb_explain.specs.declared.fault.MarkedFault.TheVariants as marked
use Rattle.mdb_explain.specs.Replay.{IsForMark, IsMarkRow, dash}

-- a mark row whose own fields are refused
abbrev pub IsBadMark : List (List ℕ) → RowFault → Type 0
IsBadMark fields FieldCount = ⊥
IsBadMark fields BadTime =
    (own : IsForMark fields) × ((row : ℕ) → IsDecimal 15 own.number row → ⊥)
IsBadMark fields BadLine = ⊥
IsBadMark fields BadValue =
    (own : IsForMark fields) × (row : ℕ) × IsDecimal 15 own.number row × (own.value ≢ dash)

-- a record is read as an entry
abbrev pub IsEntry : List (List ℕ) → Entry → Type 0
IsEntry fields (entries.Mark row mark) = IsMarkRow fields (row, mark)
IsEntry fields (entries.BadMark fault) = IsBadMark fields fault
IsEntry fields (entries.Row event) = IsRow fields event
IsEntry fields (entries.BadRow fault) = (IsForMark fields → ⊥) × IsRefusal fields fault

-- no record is refused
abbrev pub IsNoEntry : List (List ℕ) → RowFault → Type 0
IsNoEntry fields fault = ⊥

-- why the replay stops at a row, by the fault of the replay
abbrev pub stop_by : ReplayFault → Result Offence MarkedFault
stop_by (faults.Offence offence) = Ok offence
stop_by (faults.Mark row) = Err (marked.Mark row)
