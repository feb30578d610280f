-- How far the replay of the records of an input has come. This file serves private functions.
use Rattle.std.specs.Prelude.{◌≡◌, ◌≢◌, ◌↔◌, ◌+◌, ◌<◌, ℕ, List, [], ◌∷◌, ◌++◌, length, map, Option, Some, None, Result, Ok, Err}
use Rattle.mdb_bus.specs.declared.scope.Scope.{Scope}
use Rattle.mdb_follow.specs.declared.follower.TheConstants.{ROWS_MAX}
use Rattle.mdb_run_search.specs.declared.mark.Mark.{Mark}
use Rattle.mdb_follow.specs.declared.offence.Offence.{Offence}
use Rattle.mdb_run_search.specs.Replays.{IsReplayReport, StandsFor, rows_of, scope_of}
use Rattle.mdb_follow.specs.declared.report.Report.{Report}
use Rattle.mdb_text.specs.declared.outcome.Outcome.{Outcome}
use Rattle.mdb_text.specs.declared.outcome.Outcome.TheVariants.{Yes, No}
use Rattle.mdb_explain.specs.declared.fault.MarkedFault.TheVariants as marked
use Rattle.mdb_verdict.specs.declared.fault.RunFault.TheVariants as run
use Rattle.mdb_explain.specs.declared.entry.Entry.{Entry}
use Rattle.mdb_explain.specs.declared.entry.Entry.TheVariants as entries
use Rattle.mdb_explain.specs.declared.fault.MarkedFault.{MarkedFault}
use Rattle.mdb_explain.specs.declared.replaying.Replaying.{Replaying}
use Rattle.mdb_explain.specs.Replay.{CanBe, InputPart, IsStopAt, RiseAbove, all_marks}
use Rattle.mdb_explain.specs.inner.Entries.{IsEntry}

-- the entry of a mark, and those of a part
abbrev pub mark_entry : ℕ × Mark → Entry
mark_entry mark = entries.Mark mark.0 mark.1

abbrev pub entries_of : InputPart → List Entry
entries_of part = map mark_entry (all_marks part) ++ map entries.Row part.rows

-- These entries were taken, and no others: they are those of a part that can be.
pub record HasReplayed (scope : Scope) (taker : Replaying) (taken : List Entry) : Type 0 where
  pub in_scope : scope_of taker.replay ≡ scope
  pub part : InputPart
  pub are : taken ≡ entries_of part
  pub can_be : CanBe scope ROWS_MAX part
  pub stands : StandsFor taker.replay part.rows part.passed
  pub counted : rows_of taker.replay ≡ length part.rows
  pub marks : taker.marks.items ≡ all_marks part
  pub count : length taker.marks.items + rows_of taker.replay ≡ length taken
  pub passed : taker.passed ≡ length part.passed
  -- the rows of the marks rise with one more exactly where its row is above that of the last
  pub last : (row : ℕ) (mark : Mark) → RiseAbove 0 (all_marks part ++ (row, mark) ∷ [])
      ↔ (taker.last < row)

-- An entry is stopped at, after entries of a part that can be.
pub record IsStoppedAt (scope : Scope) (taken : List Entry) (entry : Entry)
    (stop : Result Offence MarkedFault) : Type 0 where
  pub part : InputPart
  pub are : taken ≡ entries_of part
  pub can_be : CanBe scope ROWS_MAX part
  pub is : (fields : List (List ℕ)) → IsEntry fields entry
      → IsStopAt scope ROWS_MAX part fields stop
  pub no_write : stop ≢ Err (marked.Run run.Write)
  pub no_read : stop ≢ Err (marked.Run run.Read)

-- All entries are taken, and no mark stands past the last row: what the rows tell.
pub record FinishesWith (scope : Scope) (taken : List Entry) (report : Report) : Type 0 where
  pub part : InputPart
  pub are : taken ≡ entries_of part
  pub can_be : CanBe scope ROWS_MAX part
  pub none : part.later ≡ []
  pub is : IsReplayReport scope part.rows part.passed report

-- All entries are taken, and a mark stands past the last row.
pub record FinishesBefore (scope : Scope) (taken : List Entry) (row : ℕ) : Type 0 where
  pub part : InputPart
  pub are : taken ≡ entries_of part
  pub can_be : CanBe scope ROWS_MAX part
  pub mark : Mark
  pub more : List (ℕ × Mark)
  pub first : part.later ≡ (row, mark) ∷ more

abbrev pub Finishes : Scope → List Entry → Result Outcome MarkedFault → Type 0
Finishes scope taken (Ok (Yes report)) = FinishesWith scope taken report
Finishes scope taken (Ok (No offence)) = ⊥
Finishes scope taken (Err (marked.Mark row)) = FinishesBefore scope taken row
Finishes scope taken (Err (marked.Run fault)) = ⊥
