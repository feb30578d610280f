-- How a reading of rows ends.
--
-- `Is` says which fields are which row, `Refuses` why they are none. `Has` says which rows were
-- taken, `Stops` that a row after earlier ones was stopped at.
use Rattle.std.specs.Prelude.{◌≡◌, ◌+◌, ◌<◌, ◌≤◌, ℕ, List, [], ◌∷◌, ◌++◌, length, ⊤, Bool, true, false, Option, Some, None, Result, Ok, Err}
use Rattle.mdb_words.specs.declared.event.Event.{Event}
use Rattle.mdb_words.specs.declared.row.RowFault.{RowFault}
use Rattle.mdb_records.specs.declared.ReadFault.{ReadFault}
use Rattle.mdb_records.specs.declared.ReadFault.TheVariants as reading
use Rattle.mdb_follow.specs.declared.follower.Follower.{Follower}
use Rattle.mdb_follow.specs.Follower.{StandsFor, rows_of, scope_of}
use Rattle.mdb_verdict.specs.declared.batch.Next.{Next}
use Rattle.mdb_verdict.specs.declared.batch.Next.TheVariants as next
use Rattle.mdb_verdict.specs.declared.fault.RunFault.{RunFault}
use Rattle.mdb_verdict.specs.declared.fault.RunFault.TheVariants.{BadRow, TooLong, Read, Write, Memory}
use Rattle.mdb_verdict.specs.Unanswered.{IsUnanswered}
use Rattle.mdb_verdict.specs.Verdict.{IsStopped, IsTakenWhole}
use Rattle.mdb_follow.specs.Report.{IsReport}
use Rattle.mdb_text.specs.declared.outcome.Outcome.{Outcome}
use Rattle.mdb_text.specs.declared.outcome.Outcome.TheVariants.{Yes, No}
use Rattle.mdb_bus.specs.declared.scope.Scope.{Scope}

-- a row was taken after the earlier ones, or was stopped at
abbrev pub HasTakenOrStoppedAt : {Row Stop : Type 0} → (List Row → Type 0)
    → (List Row → Row → Stop → Type 0) → List Row → Row → Option Stop → Type 0
HasTakenOrStoppedAt Has Stops earlier row None = Has (earlier ++ row ∷ [])
HasTakenOrStoppedAt Has Stops earlier row (Some stop) = Stops earlier row stop

-- One of the later rows was stopped at, after the earlier ones and those before it.
pub record StopsAmong {Row : Type 0} (Stops : List Row → Row → Type 0) (earlier later : List Row)
    : Type 0 where
  pub front : List Row
  pub row : Row
  pub rest : List Row
  pub parts : later ≡ front ++ row ∷ rest
  pub stops : Stops (earlier ++ front) row

-- the later rows were taken after the earlier ones, or one of them was stopped at
abbrev pub HasTakenOrStopped : {Row Stop : Type 0} → (List Row → Type 0)
    → (List Row → Row → Stop → Type 0) → List Row → List Row → Option Stop → Type 0
HasTakenOrStopped Has Stops earlier later None = Has (earlier ++ later)
HasTakenOrStopped Has Stops earlier later (Some stop) =
    StopsAmong (λ front row. Stops front row stop) earlier later

-- it was stopped at some row
abbrev pub IsStop : {Row Stop : Type 0} → (List Row → Row → Stop → Type 0) → Stop → Type 0
IsStop {Row = Row} Stops stop = (earlier : List Row) × (row : Row) × Stops earlier row stop

-- a follower has taken these rows
pub record HasFollowedRows (scope : Scope) (follower : Follower) (rows : List Event) : Type 0 where
  pub in_scope : scope_of follower ≡ scope
  pub stands : StandsFor follower rows
  pub counted : rows_of follower ≡ length rows

-- what the reading of records came to: at the end of the text, at a row that was stopped at, or
-- without an answer
abbrev pub HasEnded : {Row Stop : Type 0} → (List (List ℕ) → Row → Type 0)
    → (List (List ℕ) → RowFault → Type 0) → (List Row → Type 0)
    → (List Row → Row → Stop → Type 0) → ℕ → List (List (List ℕ))
    → Result (Option Stop) RunFault → Type 0
HasEnded Is Refuses Has Stops limit records (Ok None) = IsTakenWhole Is Has limit records
HasEnded Is Refuses Has Stops limit records (Ok (Some stop)) =
    IsStopped Is (λ rows row. Stops rows row stop) limit records
HasEnded Is Refuses Has Stops limit records (Err fault) =
    IsUnanswered Is Refuses Has limit records fault

-- the fault of a run whose reading failed
abbrev pub run_fault_of : ReadFault → RunFault
run_fault_of reading.Read = Read
run_fault_of reading.Memory = Memory

-- a fault of reading is one that the reading of records has met
abbrev pub HasMet : Option ReadFault → RunFault → Type 0
HasMet met Read = met ≡ Some reading.Read
HasMet met Memory = met ≡ Some reading.Memory
HasMet met _ = ⊤

-- a fault of reading that was met is the answer, or a row before it can't be
abbrev pub IsToldAs : ReadFault → Result Outcome RunFault → Type 0
IsToldAs met (Ok (Yes report)) = ⊥
IsToldAs met (Ok (No offence)) = ⊤
IsToldAs met (Err fault) = fault ≡ run_fault_of met

-- a yes with the report on these rows
abbrev pub IsYes : Scope → List Event → Outcome → Type 0
IsYes scope rows (Yes report) = IsReport scope rows report
IsYes scope rows (No offence) = ⊥

-- a fault of reading is one that the reading of records has met, and no writer fails
abbrev pub IsHeard : Option ReadFault → RunFault → Type 0
IsHeard met (BadRow row fault) = ⊤
IsHeard met TooLong = ⊤
IsHeard met Read = met ≡ Some reading.Read
IsHeard met Memory = met ≡ Some reading.Memory
IsHeard met Write = ⊥

-- no more records were found than these, where a record can't be read
abbrev pub FindsUpTo : RunFault → ℕ → ℕ → Type 0
FindsUpTo Read most found = found ≤ most
FindsUpTo Memory most found = found ≤ most
FindsUpTo _ most found = ⊤

-- a fault of reading that was met is the answer, or a row before it was stopped at
abbrev pub IsToldEnd : {Stop : Type 0} → ReadFault → Result (Option Stop) RunFault → Type 0
IsToldEnd met (Ok None) = ⊥
IsToldEnd met (Ok (Some stop)) = ⊤
IsToldEnd met (Err fault) = fault ≡ run_fault_of met

-- whether rows may come after so many of them and this, or which fault it is
abbrev pub goes_on_by : Next → ℕ → Result Bool RunFault
goes_on_by next.More rows = Ok true
goes_on_by next.End rows = Ok false
goes_on_by (next.BadRow fault) rows = Err (BadRow (rows + 1) fault)
goes_on_by (next.Failed fault) rows = Err (run_fault_of fault)

-- there is a record
pub record HasFirst (records : List (List (List ℕ))) : Type 0 where
  pub fields : List (List ℕ)
  pub rest : List (List (List ℕ))
  pub is : records ≡ fields ∷ rest

-- no record may stand after the last row: there is none, there is one, or it can't be read
abbrev pub EndsAfter : List (List (List ℕ)) → Result Unit RunFault → Type 0
EndsAfter rest (Ok done) = rest ≡ []
EndsAfter rest (Err (BadRow row fault)) = ⊥
EndsAfter rest (Err TooLong) = HasFirst rest
EndsAfter rest (Err Read) = ⊤
EndsAfter rest (Err Memory) = ⊤
EndsAfter rest (Err Write) = ⊥
