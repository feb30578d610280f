-- Fronts of rows that have a run with given marks: each has one with the marks there.
use Rattle.mdb_run_search.proofs.Words.{IsActList, Piece, Whole, acts_of, events_of, IsTail, Beginning, Scope, choices_in, marks_at, marks_of, HasMarkedRun, SplitAt, Mark, split_with_choices, AllFollow, Choices, AllSums, States, Event, All, List, [], ap, append_assoc, arith, length, length-append, subst, sym, ℕ, ◌++◌, ◌+◌, ◌<◌, ◌∙◌, ◌∷◌, ◌≡◌, ◌≤◌, ◌↔◌, append-nil, All-append, All-nil}
use Rattle.mdb_bus.specs.shared.Grammar.{OpenIsAFront}
use Rattle.mdb_bus.proofs.Backward.{backward}
use Rattle.mdb_bus.proofs.Forward.{forward}
use Rattle.mdb_bus.proofs.Lists.{not_empty}
use Rattle.mdb_run_search.proofs.MarkedRuns.{IsAt, JoinWithChoices, all_within, at_row, marked-run}
use Rattle.mdb_run_search.proofs.Replaying.{before-newest}

-- Ways through pieces without the last row, and the marks: those of the ways, and then some at that
-- row.
record Kept (begins : Beginning) (number : ℕ) (marks : List (ℕ × Mark)) (before : List Piece)
    : Type 0 where
  chosen : Choices (acts_of before)
  states : States
  sums : AllSums
  ways : AllFollow begins (acts_of before) chosen states sums
  back : List (ℕ × Mark)
  are : marks ≡ marks_of before chosen ++ back
  at : All (IsAt number) back

module _ (begins : Beginning) (number : ℕ) where
  -- without the newest piece
  kept_rest : (rest : List Piece) (newest : Piece) → length (events_of (newest ∷ rest)) ≡ number
      → (chosen : Choices (acts_of (newest ∷ rest))) (states : States) (sums : AllSums)
      → AllFollow begins (acts_of (newest ∷ rest)) chosen states sums
      → Kept begins number (marks_of (newest ∷ rest) chosen) rest
  kept_rest rest (Whole act events) count chosen states sums ways = record {
    chosen = chosen.before;
    states = λ device. (ways device).before;
    sums = λ device. (ways device).sums_before;
    ways = λ device. (ways device).way;
    back = marks_at number chosen.choice;
    are = rw count;
    at = at_row number chosen.choice;
  }
  kept_rest rest tail count chosen states sums ways = record {
    chosen = chosen;
    states = states;
    sums = sums;
    ways = ways;
    back = [];
    are = sym (append-nil (marks_of rest chosen));
    at = All-nil (IsAt number);
  }

  -- a tail adds nothing
  kept_tail : {marks : List (ℕ × Mark)} (tail : Piece) (rest : List Piece) → IsTail tail
      → Kept begins number marks rest ↔ Kept begins number marks (tail ∷ rest)
  kept_tail (Whole act events) rest is = absurd is
  kept_tail tail rest is = (λ kept. search kept, λ kept. search kept)

-- what the laws of runs and of the bus say
pub record FrontLaws (scope : Scope) : Type 0 where
  pub opens : OpenIsAFront scope
  pub joins : JoinWithChoices

-- a run of rows without the last, with the marks there, and the marks that stand at the last
record Less (scope : Scope) (rows : List Event) (marks : List (ℕ × Mark)) : Type 0 where
  front : List (ℕ × Mark)
  reached : HasMarkedRun scope rows front
  back : List (ℕ × Mark)
  are : marks ≡ front ++ back
  at : All (IsAt (length rows + 1)) back

module _ (scope : Scope) (laws : FrontLaws scope) where
  -- ways through the acts of rows and one more
  less_by : (rows : List Event) (row : Event) (pieces : List Piece)
      → IsActList scope pieces (rows ++ row ∷ [])
      → (chosen : Choices (acts_of pieces)) (states : States) (sums : AllSums)
      → AllFollow scope.begins (acts_of pieces) chosen states sums
      → Less scope rows (marks_of pieces chosen)
  less_by rows row [] list chosen states sums ways =
      absurd (not_empty rows row (sym list.whole))
  less_by rows row (newest ∷ rest) list chosen states sums ways =
      let back = backward scope laws.opens (newest ∷ rest) rows row list.in_order list.whole in
      let grown = (forward scope back.before row back.next back.in_order back.leads).grown in
      let same : newest ∷ rest ≡ grown.newest ∷ grown.earlier = back.is ∙ grown.are in
      let its : rest ≡ grown.earlier = cc same in
      let marks = marks_of (newest ∷ rest) chosen in
      let kept = (before-newest (Kept scope.begins (length rows + 1) marks)
      (kept_tail scope.begins (length rows + 1)) grown).0
      (subst (Kept scope.begins (length rows + 1) marks) its
      (kept_rest scope.begins (length rows + 1) rest newest
      (ap length list.whole ∙ length-append rows (row ∷ [])) chosen states sums ways)) in
      record {
        front = marks_of back.before kept.chosen;
        reached = (
          kept.sums,
          marked-run laws.joins (record { in_order = back.in_order; whole = back.rows_before })
              kept.chosen kept.states kept.sums kept.ways,
        );
        back = kept.back;
        are = kept.are;
        at = kept.at;
      }

  less : (rows : List Event) (row : Event) (marks : List (ℕ × Mark))
      → HasMarkedRun scope (rows ++ row ∷ []) marks → Less scope rows marks
  less rows row marks reached =
      let run = reached.1.run in
      rw reached.1.are at (less_by rows row run.pieces run.act_list (choices_in run) run.states
      reached.0 (split_with_choices scope.begins run.loss run.pieces run.states reached.0 run.way))

  -- no mark of a run is past its last row
  none_past : (rows : List Event) (marks : List (ℕ × Mark)) → HasMarkedRun scope rows marks
      → All (λ (mark : ℕ × Mark). mark.0 ≤ length rows) marks
  none_past rows marks reached =
      let run = reached.1.run in
      let within = all_within scope run.pieces (choices_in run) run.act_list.in_order in
      let rows_are = ap length run.act_list.whole in
      subst (All (λ (mark : ℕ × Mark). mark.0 ≤ length rows)) reached.1.are
      (λ k d inside. let is = within k d inside in omega (arith, is, rows_are))

  -- any first rows of those that have a run with marks have one with the marks there
  pub split_at_rows : (rows more : List Event) (marks : List (ℕ × Mark))
      → HasMarkedRun scope (rows ++ more) marks → SplitAt scope rows marks
  split_at_rows rows [] marks reached =
      let whole : HasMarkedRun scope rows marks = rw append-nil at reached in
      record {
        front = marks;
        back = [];
        are = sym (append-nil marks);
        reached = whole;
        within = none_past rows marks whole;
        after = All-nil (λ (mark : ℕ × Mark). length rows < mark.0);
      }
  split_at_rows rows (row ∷ more) marks reached =
      let later = split_at_rows (rows ++ row ∷ []) more marks (rw append_assoc reached) in
      let it = less rows row later.front later.reached in
      record {
        front = it.front;
        back = it.back ++ later.back;
        are = later.are ∙ (ap (λ ms. ms ++ later.back) it.are
            ∙ append_assoc it.front it.back later.back);
        reached = it.reached;
        within = none_past rows it.front it.reached;
        after = All-append (λ (mark : ℕ × Mark). length rows < mark.0) it.back later.back
            (λ k d inside. let is = it.at k d inside in omega (arith, is))
            (λ k d inside.
            let is = later.after k d inside in omega (arith, is, length-append rows (row ∷ [])));
      }
