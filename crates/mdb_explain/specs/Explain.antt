-- What `explain` writes: the marks of a run that comes to an end of a range, and then the rows of
-- the transcript, as `replay` reads them (this profile).
use Rattle.std.specs.Prelude.{◌≡◌, ◌≢◌, ◌<◌, ℕ, List, [], ◌∷◌, ◌++◌, map, codes, Option, Result, Ok, Err}
use Rattle.std.specs.Prelude.{IfErr, IfOk, IfSome, length}
use Rattle.std.specs.Fmt.{decimal}
use Rattle.std.specs.Io.KnownBytes.{Appends}
use Rattle.std.specs.List.{flat_map}
use Rattle.csv.specs.Reading.{default_config, records, strip_bom}
use Rattle.mdb_words.specs.declared.event.Event.{Event}
use Rattle.mdb_words.specs.RowsWritten.{joined_by_commas, row_fields}
use Rattle.mdb_bus.specs.declared.scope.Scope.{Scope}
use Rattle.mdb_follow.specs.declared.follower.TheConstants.{ROWS_MAX}
use Rattle.mdb_follow.specs.declared.goal.Bound.{Bound}
use Rattle.mdb_follow.specs.declared.goal.Bound.TheVariants.{Least, Greatest}
use Rattle.mdb_follow.specs.declared.goal.Goal.{Goal}
use Rattle.mdb_run_search.specs.declared.mark.Mark.{Mark}
use Rattle.mdb_follow.specs.declared.range.Range.{Range}
use Rattle.mdb_follow.specs.declared.report.Report.{Report}
use Rattle.mdb_follow.specs.AccountNames.{account_of, account_word}
use Rattle.mdb_follow.specs.Ends.{side_range}
use Rattle.mdb_follow.specs.GoalEnds.{end_of}
use Rattle.mdb_run_search.specs.Goals.{Explains}
use Rattle.mdb_text.specs.declared.outcome.Outcome.{Outcome}
use Rattle.mdb_text.specs.declared.outcome.Outcome.TheVariants.{Yes, No}
use Rattle.mdb_explain.specs.declared.fault.MarkedFault.{MarkedFault}
use Rattle.mdb_text.specs.Accounts.{side_word}
use Rattle.mdb_explain.specs.Replay.{dash, mark_letter}
use Rattle.mdb_text.specs.Text.{line, report_text}
use Rattle.mdb_verdict.specs.declared.fault.RunFault.{RunFault}
use Rattle.mdb_verdict.specs.declared.fault.RunFault.TheVariants.{Write}
use Rattle.mdb_verdict.specs.declared.verdict.TheConstants.{BYTES_MAX}
use Rattle.mdb_verdict.specs.Headline.{IfNo}
use Rattle.mdb_verdict.specs.Verdict.{IsAnswer, IsNoYes}
use Rattle.mdb_verdict.specs.Rows.{AreRows}
use Rattle.mdb_writing.specs.Written.{HasTaken}

-- the word of an end of a range
abbrev pub bound_word : Bound → List ℕ
bound_word Least = codes "least"
bound_word Greatest = codes "greatest"

-- the words of a goal
abbrev pub goal_words : Goal → List (List ℕ)
goal_words goal = account_word goal.account ∷ side_word goal.side ∷ bound_word goal.bound ∷ []

-- the fields of a mark row as they are written
abbrev pub mark_fields : ℕ × Mark → List (List ℕ)
mark_fields mark = decimal mark.0 ∷ (mark_letter mark.1 ∷ []) ∷ dash ∷ []

-- the records that are written of marks and rows: the marks come first
abbrev pub explanation_records : List (ℕ × Mark) → List Event → List (List (List ℕ))
explanation_records marks rows = map mark_fields marks ++ map row_fields rows

-- a record as it is written: one line, with commas between its fields
abbrev pub record_line : List (List ℕ) → List ℕ
record_line fields = line (joined_by_commas fields)

-- and all of them
abbrev pub explanation_text : List (ℕ × Mark) → List Event → List ℕ
explanation_text marks rows = flat_map record_line (explanation_records marks rows)

-- All records are rows, and the text is marks that explain the goal, and then the rows.
pub record IsExplanation (scope : Scope) (goal : Goal) (records : List (List (List ℕ)))
    (text : List ℕ) : Type 0 where
  pub rows : List Event
  pub told : AreRows records rows
  pub marks : List (ℕ × Mark)
  pub explains : Explains scope rows goal marks
  pub is : text ≡ explanation_text marks rows

-- the text of an answer to records: of a yes an explanation of the goal, of a no what `check`
-- writes
abbrev pub IsExplainText : Scope → Goal → List (List (List ℕ)) → Outcome → List ℕ → Type 0
IsExplainText scope goal records (Yes report) text = IsExplanation scope goal records text
IsExplainText scope goal records (No offence) text = text ≡ report_text scope (No offence)

-- such a text was written
abbrev pub IsExplainedIn : Scope → Goal → List (List (List ℕ)) → Option (List ℕ)
    → Option (List ℕ) → Outcome → Type 0
IsExplainedIn scope goal records before after outcome =
    (text : List ℕ) × IsExplainText scope goal records outcome text × Appends before after text

-- The records have a verdict, and a writer took a front of its text.
pub record IsCutExplanation (scope : Scope) (limit : ℕ) (goal : Goal)
    (records : List (List (List ℕ))) (before after : Option (List ℕ)) : Type 0 where
  pub outcome : Outcome
  pub is : IsAnswer scope limit records (Ok outcome)
  pub text : List ℕ
  pub explains : IsExplainText scope goal records outcome text
  pub taken : HasTaken before after text

-- What `explain` answers the records with, and what it writes.
pub record IsExplained (scope : Scope) (goal : Goal) (records : List (List (List ℕ)))
    (before after : Option (List ℕ)) (result : Result Outcome RunFault) : Type 0 where
  pub answer : IsAnswer scope ROWS_MAX records result
  pub written : IfOk result (IsExplainedIn scope goal records before after)
  pub cut : result ≡ Err Write → IsCutExplanation scope ROWS_MAX goal records before after

-- What the writer has of any records: of a no what `check` writes, and nothing with another fault.
pub record LeavesNo {W : Type 0} (contents : W → Option (List ℕ)) (scope : Scope) (old new : W)
    (result : Result Outcome RunFault) : Type 0 where
  pub written_no : IfOk result (λ outcome. IfNo outcome (λ offence.
      Appends (contents old) (contents new) (report_text scope (No offence))))
  pub nothing_written : IfErr result (λ fault. fault ≢ Write → new ≡ old)

-- Both, of the records of what a reader still gives, if that is known. With more bytes than a text
-- may have there is no yes.
pub record ExplainsText {W : Type 0} (contents : W → Option (List ℕ)) (scope : Scope) (goal : Goal)
    (remaining : Option (List ℕ)) (old new : W) (result : Result Outcome RunFault) : Type 0 where
  pub explained : IfSome remaining (λ bytes. IsExplained scope goal
      (records default_config (strip_bom bytes)) (contents old) (contents new) result)
  pub whole : IfSome remaining (λ bytes. BYTES_MAX < length bytes → IsNoYes result)
  pub leaves : LeavesNo contents scope old new result

-- what a report has of the account and side of a goal
abbrev pub goal_range : Goal → Report → Range
goal_range goal report = side_range goal.side (account_of goal.account report)

-- The answer of a replay is a yes that comes to the end of the goal which a report of `check` has:
-- both ends of the range of its report are that.
abbrev pub ComesTo : Goal → Report → Result Outcome MarkedFault → Type 0
ComesTo goal checked (Ok (Yes replayed)) =
    ((goal_range goal replayed).least ≡ end_of goal.bound (goal_range goal checked))
    × ((goal_range goal replayed).greatest ≡ end_of goal.bound (goal_range goal checked))
ComesTo goal checked (Ok (No offence)) = ⊥
ComesTo goal checked (Err fault) = ⊥
