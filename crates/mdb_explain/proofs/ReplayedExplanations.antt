-- What an explanation is replayed to: the end of the range that it explains.
use Rattle.mdb_explain.proofs.Words.{All, All-head, All-tail, AreMarkRows, AreRows, BYTES_MAX, ComesTo, Event, Goal, HasMarkedRun, IsAnswer, IsExplanation, IsOwnReplay, IsReplayAnswer, IsReplayReport, IsReplayed, List, Mark, MarkedFault, Ok, Outcome, ROWS_MAX, Report, Result, RiseAbove, Scope, Yes, [], ap, arith, default_config, explanation_records, explanation_text, goal_range, length, map, mark_fields, one_list, read_records, row_fields, strip_bom, subst, ℕ, ◌*◌, ◌+◌, ◌∷◌, ◌≡◌, ◌≤◌}
use Rattle.mdb_follow.specs.GoalEnds.{end_of}
use Rattle.mdb_run_search.specs.Goals.{Explains}
use Rattle.mdb_follow.specs.Report.{IsReport}
use Rattle.mdb_explain.proofs.OneReplayAnswer.{IsUpTo, MarkLaws, rising_run, upto_run}

-- what the laws of explanations and of replays say
pub record ExplainLaws (scope : Scope) : Type 0 where
  pub reported : (rows : List Event) (marks : List (ℕ × Mark)) → HasMarkedRun scope rows marks
      → (report : Report) × IsReplayReport scope rows marks report
  pub comes : (rows : List Event) (goal : Goal) (marks : List (ℕ × Mark))
      (checked replayed : Report) → Explains scope rows goal marks → IsReport scope rows checked
      → IsReplayReport scope rows marks replayed
      → ((goal_range goal replayed).least ≡ end_of goal.bound (goal_range goal checked))
      × ((goal_range goal replayed).greatest ≡ end_of goal.bound (goal_range goal checked))
  pub one_answer : (limit : ℕ) (records : List (List (List ℕ))) (a b : Result Outcome MarkedFault)
      → IsReplayAnswer scope limit records a → IsReplayAnswer scope limit records b → IsOwnReplay a
      → IsOwnReplay b → a ≡ b
  pub read : (records : List (List (List ℕ))) (rows : List Event) (marks : List (ℕ × Mark))
      → AreRows records rows → All (λ mark. mark.0 ≤ ROWS_MAX) marks
      → (read_records default_config (strip_bom (explanation_text marks rows))
      ≡ explanation_records marks rows) × AreMarkRows (map mark_fields marks) marks
      × AreRows (map row_fields rows) rows

-- marks whose rows rise are as many as the rows at which they may stand, or fewer
few_rising : (least most : ℕ) (marks : List (ℕ × Mark)) → least ≤ most → RiseAbove least marks
    → All (IsUpTo most) marks → least + length marks ≤ most
few_rising least most [] some rise below = omega arith
few_rising least most (mark ∷ marks) some rise below =
    omega (
      arith,
      rise.0,
      few_rising mark.0 most marks (All-head (IsUpTo most) mark marks below)
          rise.1 (All-tail (IsUpTo most) mark marks below),
    )

-- what the law of the length of an explanation says
abbrev pub ExplanationsAreShort : Type 0
ExplanationsAreShort = (records : List (List (List ℕ))) (rows : List Event)
    (marks : List (ℕ × Mark)) → AreRows records rows → All (λ mark. mark.0 ≤ ROWS_MAX) marks
    → length (explanation_text marks rows) ≤ 14 * length marks + 31 * length rows

-- A text that explains records for which `check` says yes.
module _ (scope : Scope) (laws : MarkLaws scope) (goal : Goal) (records : List (List (List ℕ)))
    (text : List ℕ) (checked : Report)
    (possible : IsAnswer scope ROWS_MAX records (Ok (Yes checked)))
    (is : IsExplanation scope goal records text) where
  -- its rows are those that were checked, and few
  one_rows : possible.rows ≡ is.rows
  one_rows = one_list records possible.rows is.rows possible.told is.told

  few_rows : length is.rows ≤ ROWS_MAX
  few_rows = rw one_rows at possible.few

  -- its marks stand at them, and so are few
  reached : HasMarkedRun scope is.rows is.marks
  reached = (is.explains.sums, is.explains.marked)

  few_marks : length is.marks ≤ length is.rows
  few_marks = omega (
    arith,
    few_rising 0 (length is.rows) is.marks (omega arith)
        (rising_run scope laws is.rows is.marks reached)
        (upto_run scope laws is.rows is.marks reached),
  )

  within : All (λ mark. mark.0 ≤ ROWS_MAX) is.marks
  within = λ k mark lt.
      omega (arith, upto_run scope laws is.rows is.marks reached k mark lt, few_rows)

  -- it is replayed to a yes that comes to the end of its goal
  pub comes_to : ExplainLaws scope → (answer : Result Outcome MarkedFault)
      → IsReplayAnswer scope ROWS_MAX (read_records default_config (strip_bom text)) answer
      → IsOwnReplay answer → ComesTo goal checked answer
  comes_to more answer replayed own =
      let read = more.read records is.rows is.marks is.told within in
      let reported = more.reported is.rows is.marks reached in
      let whole : IsReplayed scope ROWS_MAX (read_records default_config (strip_bom text))
      reported.0 = record {
        marks = is.marks;
        rows = is.rows;
        mark_rows = map mark_fields is.marks;
        transcript = map row_fields is.rows;
        split = rw is.is read.0;
        are_marks = read.1;
        are_rows = read.2;
        few_marks = omega (arith, few_marks, few_rows);
        few_rows = few_rows;
        is = reported.1;
      } in
      subst (ComesTo goal checked) (more.one_answer ROWS_MAX
      (read_records default_config (strip_bom text)) (Ok (Yes reported.0)) answer whole replayed tt
      own) (more.comes is.rows goal is.marks checked reported.0 is.explains
      (rw one_rows at possible.has.0) reported.1)

  -- and is within the limit of bytes
  pub short_text : ExplanationsAreShort → length text ≤ BYTES_MAX
  short_text short = omega (
    arith,
    ap length is.is,
    short records is.rows is.marks is.told within,
    few_marks,
    few_rows,
  )
