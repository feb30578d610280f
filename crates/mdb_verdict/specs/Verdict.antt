-- What is answered to the records of a text, where it may have so many rows (`limit`).
use Rattle.std.specs.Prelude.{◌≡◌, ◌+◌, ◌<◌, ◌≤◌, ℕ, List, [], ◌∷◌, ◌++◌, length, ⊤, Result, Ok, Err}
use Rattle.mdb_words.specs.declared.row.RowFault.{RowFault}
use Rattle.mdb_words.specs.Row.{IsRow}
use Rattle.mdb_words.specs.Refusals.{IsRefusal}
use Rattle.mdb_follow.specs.declared.offence.Offence.{Offence}
use Rattle.mdb_follow.specs.declared.report.Report.{Report}
use Rattle.mdb_follow.specs.Offences.{IsOffence}
use Rattle.mdb_follow.specs.Report.{IsReport}
use Rattle.mdb_follow.specs.Runs.{IsReached}
use Rattle.mdb_follow.specs.Sales.{SalesFollowApprovals}
use Rattle.mdb_text.specs.declared.outcome.Outcome.{Outcome}
use Rattle.mdb_text.specs.declared.outcome.Outcome.TheVariants.{Yes, No}
use Rattle.mdb_verdict.specs.declared.fault.RunFault.{RunFault}
use Rattle.mdb_verdict.specs.declared.fault.RunFault.TheVariants.{BadRow, TooLong, Read, Write, Memory}
use Rattle.mdb_bus.specs.declared.scope.Scope.{Scope}

-- How the reading of records ends. `Is` says which fields are which row, `Refuses` why they are
-- none, `Has` which rows were taken, and `Stops` at which row after these the reading stops.

-- each record is a row, and these are the rows
abbrev pub AreAll : {Row : Type 0} → (List (List ℕ) → Row → Type 0) → List (List (List ℕ))
    → List Row → Type 0
AreAll Is [] [] = ⊤
AreAll Is (fields ∷ records) (row ∷ rows) = Is fields row × AreAll Is records rows
AreAll Is [] (row ∷ rows) = ⊥
AreAll Is (fields ∷ records) [] = ⊥

-- The first of the records are these rows, and the rest stands after them.
pub record AreRead {Row : Type 0} (Is : List (List ℕ) → Row → Type 0)
    (records : List (List (List ℕ))) (rows : List Row) (rest : List (List (List ℕ)))
    : Type 0 where
  pub done : List (List (List ℕ))
  pub split : records ≡ done ++ rest
  pub told : AreAll Is done rows

-- It ends with the records: all are rows, which were taken.
pub record IsTakenWhole {Row : Type 0} (Is : List (List ℕ) → Row → Type 0)
    (Has : List Row → Type 0) (limit : ℕ) (records : List (List (List ℕ))) : Type 0 where
  pub rows : List Row
  pub told : AreAll Is records rows
  pub few : length rows ≤ limit
  pub has : Has rows

-- It ends at a row that is stopped at.
pub record IsStopped {Row : Type 0} (Is : List (List ℕ) → Row → Type 0)
    (Stops : List Row → Row → Type 0) (limit : ℕ) (records : List (List (List ℕ)))
    : Type 0 where
  pub rows : List Row
  pub row : Row
  pub fields : List (List ℕ)
  pub rest : List (List (List ℕ))
  pub read : AreRead Is records rows (fields ∷ rest)
  pub told : Is fields row
  pub few : length rows < limit
  pub stops : Stops rows row

-- It ends at a record that is no row, after rows that were taken.
pub record IsTakenToBadRow {Row : Type 0} (Is : List (List ℕ) → Row → Type 0)
    (Refuses : List (List ℕ) → RowFault → Type 0) (Has : List Row → Type 0) (limit : ℕ)
    (records : List (List (List ℕ))) (row : ℕ) (fault : RowFault) : Type 0 where
  pub rows : List Row
  pub fields : List (List ℕ)
  pub rest : List (List (List ℕ))
  pub read : AreRead Is records rows (fields ∷ rest)
  pub few : length rows < limit
  pub number : row ≡ length rows + 1
  pub refused : Refuses fields fault
  pub has : Has rows

-- It ends at a record after as many rows as there may be, whatever it holds.
pub record IsTakenToLimit {Row : Type 0} (Is : List (List ℕ) → Row → Type 0)
    (Has : List Row → Type 0) (limit : ℕ) (records : List (List (List ℕ))) : Type 0 where
  pub rows : List Row
  pub fields : List (List ℕ)
  pub rest : List (List (List ℕ))
  pub read : AreRead Is records rows (fields ∷ rest)
  pub full : length rows ≡ limit
  pub has : Has rows

-- All records are rows, and the controller and its peripherals can have said these words at these
-- times: the rows have a run. The report is what their runs tell, and in each of them every sale at
-- a reader follows its approval.
abbrev pub IsPossible : Scope → ℕ → List (List (List ℕ)) → Report → Type 0
IsPossible scope limit records report = IsTakenWhole IsRow
    (λ rows. IsReport scope rows report × SalesFollowApprovals scope rows) limit records

-- The first row that cannot follow the rows before it, the rule that it breaks, and who is to
-- blame.
abbrev pub IsImpossible : Scope → ℕ → List (List (List ℕ)) → Offence → Type 0
IsImpossible scope limit records offence =
    IsStopped IsRow (λ rows row. IsOffence scope rows row offence) limit records

-- The answer to the records of a text. It ends before its last row at the first one that cannot be,
-- at a record that is no row, or at the limit, after rows that can be. Of a refused read, write or
-- memory the records say nothing.
abbrev pub IsAnswer : Scope → ℕ → List (List (List ℕ)) → Result Outcome RunFault → Type 0
IsAnswer scope limit records (Ok (Yes report)) = IsPossible scope limit records report
IsAnswer scope limit records (Ok (No offence)) = IsImpossible scope limit records offence
IsAnswer scope limit records (Err (BadRow row fault)) =
    IsTakenToBadRow IsRow IsRefusal (IsReached scope) limit records row fault
IsAnswer scope limit records (Err TooLong) =
    IsTakenToLimit IsRow (IsReached scope) limit records
IsAnswer scope limit records (Err Read) = ⊤
IsAnswer scope limit records (Err Write) = ⊤
IsAnswer scope limit records (Err Memory) = ⊤

-- an answer that isn't yes
abbrev pub IsNoYes : {Fault : Type 0} → Result Outcome Fault → Type 0
IsNoYes (Ok (Yes report)) = ⊥
IsNoYes (Ok (No offence)) = ⊤
IsNoYes (Err fault) = ⊤
