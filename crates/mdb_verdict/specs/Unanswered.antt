-- Why a reading ends without an answer. `Is`, `Refuses` and `Has` are those of `Verdict.antt`.
use Rattle.std.specs.Prelude.{ℕ, List}
use Rattle.mdb_words.specs.declared.row.RowFault.{RowFault}
use Rattle.mdb_verdict.specs.declared.fault.RunFault.{RunFault}
use Rattle.mdb_verdict.specs.declared.fault.RunFault.TheVariants.{BadRow, TooLong, Read, Write, Memory}
use Rattle.mdb_verdict.specs.Verdict.{AreRead, IsTakenToBadRow, IsTakenToLimit}

-- Some first records are rows, which were taken.
pub record IsTakenInPart {Row : Type 0} (Is : List (List ℕ) → Row → Type 0)
    (Has : List Row → Type 0) (records : List (List (List ℕ))) : Type 0 where
  pub rows : List Row
  pub rest : List (List (List ℕ))
  pub read : AreRead Is records rows rest
  pub has : Has rows

-- It ends after rows that were taken: at a record that isn't taken, or where none can be read. That
-- the writer failed is no such end.
abbrev pub IsUnanswered : {Row : Type 0} → (List (List ℕ) → Row → Type 0)
    → (List (List ℕ) → RowFault → Type 0) → (List Row → Type 0) → ℕ → List (List (List ℕ))
    → RunFault → Type 0
IsUnanswered Is Refuses Has limit records (BadRow row fault) =
    IsTakenToBadRow Is Refuses Has limit records row fault
IsUnanswered Is Refuses Has limit records TooLong = IsTakenToLimit Is Has limit records
IsUnanswered Is Refuses Has limit records Read = IsTakenInPart Is Has records
IsUnanswered Is Refuses Has limit records Memory = IsTakenInPart Is Has records
IsUnanswered Is Refuses Has limit records Write = ⊥
