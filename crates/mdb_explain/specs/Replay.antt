-- What `replay` answers to the records of an input: mark rows, and then the rows of a transcript,
-- where it may have so many of either (`limit`).
use Rattle.std.specs.Prelude.{◌≡◌, ◌≢◌, ◌⊎◌, ◌+◌, ◌<◌, ◌≤◌, ◌==◌, ℕ, List, [], ◌∷◌, ◌++◌, length, ⊤, Option, Some, None, Result, Ok, Err, if◌then◌else◌}
use Rattle.mdb_words.specs.declared.event.Event.{Event}
use Rattle.mdb_words.specs.declared.row.RowFault.{RowFault}
use Rattle.mdb_words.specs.declared.row.RowFault.TheVariants.{FieldCount, BadTime, BadLine, BadValue}
use Rattle.mdb_words.specs.Digits.{IsDecimal}
use Rattle.mdb_words.specs.Row.{IsRow}
use Rattle.mdb_words.specs.Refusals.{IsRefusal}
use Rattle.mdb_bus.specs.declared.scope.Scope.{Scope}
use Rattle.mdb_run_search.specs.declared.mark.Mark.{Mark}
use Rattle.mdb_run_search.specs.declared.mark.Mark.TheVariants.{Lost, Restart, Again}
use Rattle.mdb_follow.specs.declared.offence.Offence.{Offence}
use Rattle.mdb_follow.specs.declared.report.Report.{Report}
use Rattle.mdb_run_search.specs.ReplayFaults.{HasMarkedRun, IsMarkFault, IsReplayOffence}
use Rattle.mdb_run_search.specs.Replays.{IsReplayReport}
use Rattle.mdb_records.specs.declared.ReadFault.{ReadFault}
use Rattle.mdb_records.specs.declared.ReadFault.TheVariants as reading
use Rattle.mdb_text.specs.declared.outcome.Outcome.{Outcome}
use Rattle.mdb_text.specs.declared.outcome.Outcome.TheVariants.{Yes, No}
use Rattle.mdb_explain.specs.declared.fault.MarkedFault.{MarkedFault}
use Rattle.mdb_explain.specs.declared.fault.MarkedFault.TheVariants as marked
use Rattle.mdb_verdict.specs.declared.fault.RunFault.TheVariants as run
use Rattle.mdb_verdict.specs.Telling.{IsOwnAnswer}
use Rattle.mdb_verdict.specs.Rows.{AreRows}

-- the letter of a mark: `L` where something was lost, `R` for a restart, and `C` for an approval
-- that is told again
abbrev pub mark_letter : Mark → ℕ
mark_letter Lost = 76
mark_letter Restart = 82
mark_letter Again = 67

-- a field that is one dash
abbrev pub dash : List ℕ
dash = 45 ∷ []

-- Fields that are taken for those of a mark row, whatever stands in the first and in the third:
-- there are three, and the second is a mark's letter.
pub record IsForMark (fields : List (List ℕ)) : Type 0 where
  pub number : List ℕ
  pub mark : Mark
  pub value : List ℕ
  pub are : fields ≡ number ∷ (mark_letter mark ∷ []) ∷ value ∷ []

-- The fields of a mark row: the number of a row in digits, the mark's letter, and a dash.
pub record IsMarkRow (fields : List (List ℕ)) (mark : ℕ × Mark) : Type 0 where
  pub number : List ℕ
  pub are : fields ≡ number ∷ (mark_letter mark.1 ∷ []) ∷ dash ∷ []
  pub row : IsDecimal 15 number mark.0

-- each record is a mark row, and these are their marks
abbrev pub AreMarkRows : List (List (List ℕ)) → List (ℕ × Mark) → Type 0
AreMarkRows [] [] = ⊤
AreMarkRows (fields ∷ records) (mark ∷ marks) = IsMarkRow fields mark × AreMarkRows records marks
AreMarkRows [] (mark ∷ marks) = ⊥
AreMarkRows (fields ∷ records) [] = ⊥

-- the rows of marks rise, from one above a number on
abbrev pub RiseAbove : ℕ → List (ℕ × Mark) → Type 0
RiseAbove least [] = ⊤
RiseAbove least (mark ∷ marks) = (least < mark.0) × RiseAbove mark.0 marks

-- the first of marks, if it stands at this row
abbrev pub mark_at : ℕ → List (ℕ × Mark) → Option Mark
mark_at row [] = None
mark_at row (mark ∷ marks) = if mark.0 == row then Some mark.1 else None

-- What was read of an input: rows, the marks that stand at them, and those that stand at later
-- rows.
pub record InputPart : Type 0 where
  pub rows : List Event
  pub passed : List (ℕ × Mark)
  pub later : List (ℕ × Mark)

-- all its marks
abbrev pub all_marks : InputPart → List (ℕ × Mark)
all_marks part = part.passed ++ part.later

-- how many records that is
abbrev pub records_in : InputPart → ℕ
records_in part = length (all_marks part) + length part.rows

-- Nothing in it is refused: the rows of the marks rise from 1 or more on, those of the later ones
-- from past the last row on, and the rows have a run with the marks that stand at them.
pub record CanBe (scope : Scope) (limit : ℕ) (part : InputPart) : Type 0 where
  pub rising : RiseAbove 0 (all_marks part)
  pub beyond : RiseAbove (length part.rows) part.later
  pub few_marks : length (all_marks part) ≤ limit
  pub few_rows : length part.rows ≤ limit
  pub reached : HasMarkedRun scope part.rows part.passed

-- The records up to the rest are those of a part that can be: mark rows, and then rows.
pub record LeadUpToPart (scope : Scope) (limit : ℕ) (records : List (List (List ℕ)))
    (part : InputPart) (rest : List (List (List ℕ))) : Type 0 where
  pub mark_rows : List (List (List ℕ))
  pub transcript : List (List (List ℕ))
  pub split : records ≡ (mark_rows ++ transcript) ++ rest
  pub are_marks : AreMarkRows mark_rows (all_marks part)
  pub are_rows : AreRows transcript part.rows
  pub can_be : CanBe scope limit part

-- Why the fields of a mark row are refused after rows: the first of the three faults, in their
-- order.
abbrev pub IsMarkRefusal : List Event → List (List ℕ) → RowFault → Type 0
IsMarkRefusal rows fields FieldCount = ⊥
IsMarkRefusal rows fields BadTime =
    (own : IsForMark fields) × ((row : ℕ) → IsDecimal 15 own.number row → ⊥)
IsMarkRefusal rows fields BadLine =
    (own : IsForMark fields) × (row : ℕ) × IsDecimal 15 own.number row × (rows ≢ [])
IsMarkRefusal rows fields BadValue =
    (own : IsForMark fields) × (row : ℕ) × IsDecimal 15 own.number row × (rows ≡ [])
    × (own.value ≢ dash)

-- A record is refused that isn't one too many: it is a mark row, or else the row of a transcript.
abbrev pub IsRefusedAfter : ℕ → InputPart → List (List ℕ) → RowFault → Type 0
IsRefusedAfter limit part fields fault =
    ((part.rows ≡ [] → length (all_marks part) < limit) × IsMarkRefusal part.rows fields fault)
    ⊎ ((IsForMark fields → ⊥) × (length part.rows < limit) × IsRefusal fields fault)

-- A record is one too many, whatever else it holds: a mark row before the rows, or the row of a
-- transcript.
abbrev pub IsOneTooMany : ℕ → InputPart → List (List ℕ) → Type 0
IsOneTooMany limit part fields =
    (IsForMark fields × (part.rows ≡ []) × (length (all_marks part) ≡ limit))
    ⊎ ((IsForMark fields → ⊥) × (length part.rows ≡ limit))

-- A mark row before the rows, with which the rows of the marks don't rise.
pub record DoesNotRise (limit : ℕ) (part : InputPart) (fields : List (List ℕ)) (row : ℕ)
    : Type 0 where
  pub mark : Mark
  pub is_row : IsMarkRow fields (row, mark)
  pub before : part.rows ≡ []
  pub few : length (all_marks part) < limit
  pub falls : RiseAbove 0 (all_marks part ++ (row, mark) ∷ []) → ⊥

-- A row of the transcript at which its mark may not stand.
pub record MayNotStand (scope : Scope) (limit : ℕ) (part : InputPart) (fields : List (List ℕ))
    (row : ℕ) : Type 0 where
  pub event : Event
  pub is_row : IsRow fields event
  pub few : length part.rows < limit
  pub is : IsMarkFault scope part.rows part.passed event (mark_at (length part.rows + 1) part.later)
      row

-- The first row that cannot follow the rows before it with its mark, or without one.
pub record IsNoMarkedRow (scope : Scope) (limit : ℕ) (part : InputPart) (fields : List (List ℕ))
    (offence : Offence) : Type 0 where
  pub event : Event
  pub is_row : IsRow fields event
  pub few : length part.rows < limit
  pub is : IsReplayOffence scope part.rows part.passed event
      (mark_at (length part.rows + 1) part.later) offence

-- why the reading stops at a record, after a part that can be
abbrev pub IsStopAt : Scope → ℕ → InputPart → List (List ℕ) → Result Offence MarkedFault → Type 0
IsStopAt scope limit part fields (Ok offence) = IsNoMarkedRow scope limit part fields offence
IsStopAt scope limit part fields (Err (marked.Run (run.BadRow row fault))) =
    (row ≡ records_in part + 1) × IsRefusedAfter limit part fields fault
IsStopAt scope limit part fields (Err (marked.Run run.TooLong)) = IsOneTooMany limit part fields
IsStopAt scope limit part fields (Err (marked.Mark row)) =
    DoesNotRise limit part fields row ⊎ MayNotStand scope limit part fields row
IsStopAt scope limit part fields (Err (marked.Run run.Read)) = ⊥
IsStopAt scope limit part fields (Err (marked.Run run.Write)) = ⊥
IsStopAt scope limit part fields (Err (marked.Run run.Memory)) = ⊤

-- The first record that isn't taken.
pub record StopsAt (scope : Scope) (limit : ℕ) (records : List (List (List ℕ)))
    (stop : Result Offence MarkedFault) : Type 0 where
  pub part : InputPart
  pub fields : List (List ℕ)
  pub rest : List (List (List ℕ))
  pub leads : LeadUpToPart scope limit records part (fields ∷ rest)
  pub is : IsStopAt scope limit part fields stop

-- All records are taken, and a mark stands past the last row.
pub record IsMarkPastEnd (scope : Scope) (limit : ℕ) (records : List (List (List ℕ))) (row : ℕ)
    : Type 0 where
  pub part : InputPart
  pub leads : LeadUpToPart scope limit records part []
  pub mark : Mark
  pub more : List (ℕ × Mark)
  pub first : part.later ≡ (row, mark) ∷ more

-- All records are mark rows and then rows, and the rows have a run with these marks. The report is
-- what that run tells.
pub record IsReplayed (scope : Scope) (limit : ℕ) (records : List (List (List ℕ)))
    (report : Report) : Type 0 where
  pub marks : List (ℕ × Mark)
  pub rows : List Event
  pub mark_rows : List (List (List ℕ))
  pub transcript : List (List (List ℕ))
  pub split : records ≡ mark_rows ++ transcript
  pub are_marks : AreMarkRows mark_rows marks
  pub are_rows : AreRows transcript rows
  pub few_marks : length marks ≤ limit
  pub few_rows : length rows ≤ limit
  pub is : IsReplayReport scope rows marks report

-- The answer to the records of an input. Of a refused read, write or memory the records say
-- nothing.
abbrev pub IsReplayAnswer : Scope → ℕ → List (List (List ℕ)) → Result Outcome MarkedFault → Type 0
IsReplayAnswer scope limit records (Ok (Yes report)) = IsReplayed scope limit records report
IsReplayAnswer scope limit records (Ok (No offence)) = StopsAt scope limit records (Ok offence)
IsReplayAnswer scope limit records (Err (marked.Run (run.BadRow row fault))) =
    StopsAt scope limit records (Err (marked.Run (run.BadRow row fault)))
IsReplayAnswer scope limit records (Err (marked.Run run.TooLong)) =
    StopsAt scope limit records (Err (marked.Run run.TooLong))
IsReplayAnswer scope limit records (Err (marked.Mark row)) =
    StopsAt scope limit records (Err (marked.Mark row)) ⊎ IsMarkPastEnd scope limit records row
IsReplayAnswer scope limit records (Err (marked.Run run.Read)) = ⊤
IsReplayAnswer scope limit records (Err (marked.Run run.Write)) = ⊤
IsReplayAnswer scope limit records (Err (marked.Run run.Memory)) = ⊤

-- an answer that the records themselves have: every one but a refused read, write or memory
abbrev pub IsOwnReplay : Result Outcome MarkedFault → Type 0
IsOwnReplay (Ok outcome) = ⊤
IsOwnReplay (Err (marked.Run fault)) = IsOwnAnswer {Answer = Outcome} (Err fault)
IsOwnReplay (Err (marked.Mark row)) = ⊤

-- an input is answered that it can't be read only where the reading of its records met that
abbrev pub HasMarkedCause : Option ReadFault → MarkedFault → Type 0
HasMarkedCause met fault = fault ≡ marked.Run run.Read → met ≡ Some reading.Read
