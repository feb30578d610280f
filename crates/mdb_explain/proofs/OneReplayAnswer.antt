-- The records of an input of `replay` have one answer of their own.
use Rattle.mdb_explain.proofs.Words.{All, All-head, All-tail, AreMarkRows, AreRows, CanBe, DoesNotRise, Err, Event, FieldCount, GoesOn, HasMarkedRun, InputPart, IsForMark, IsMarkRefusal, IsMarkRow, IsOwnReplay, IsReplayAnswer, IsReplayFault, IsReplayReport, IsReplayed, IsRow, IsStopAt, LeadUpToPart, List, Mark, MarkedFault, No, None, Offence, Ok, Option, Outcome, ReplayFault, Report, Result, Rise, RiseAbove, RowFault, Scope, Some, SplitAt, StandsWithin, StopsAt, Yes, [], all_marks, ap, append-nil, append_assoc, arith, choices_in, common_steps, compared, dash, inl, inr, length, length-append, mark_at, marks_of, one_refusal, records_in, refl, row_not_refused, row_one, sym, with_mark, ℕ, ◌++◌, ◌+◌, ◌<◌, ◌∙◌, ◌∷◌, ◌≡◌, ◌≤◌, ◌⊎◌}
use Rattle.std.proofs.lemmas.List.Elements.{All-nil, All-cons, All-append, All-push}
use Rattle.mdb_words.specs.Refusals.{IsRefusal}
use Rattle.mdb_bus.specs.ActLists.{ArePieces, Piece, acts_of, events_of}
use Rattle.mdb_run_search.specs.declared.replay.ReplayFault.TheVariants as faults
use Rattle.mdb_follow.specs.Choosing.{Choices}
use Rattle.mdb_explain.specs.declared.fault.MarkedFault.TheVariants as marked
use Rattle.mdb_verdict.specs.declared.fault.RunFault.TheVariants as run
use Rattle.mdb_explain.proofs.EntryByEntry.{later_marks}

abbrev Marks : Type 0
Marks = List (ℕ × Mark)

abbrev Fields : Type 0
Fields = List (List ℕ)

abbrev Records : Type 0
Records = List (List (List ℕ))

abbrev Answer : Type 0
Answer = Result Outcome MarkedFault

-- what the laws of the marks of a run say
pub record MarkLaws (scope : Scope) : Type 0 where
  pub rise : (pieces : List Piece) (chosen : Choices (acts_of pieces)) → ArePieces scope pieces
      → Rise (marks_of pieces chosen)
  pub within : (pieces : List Piece) (chosen : Choices (acts_of pieces)) → ArePieces scope pieces
      → All (StandsWithin (length (events_of pieces))) (marks_of pieces chosen)

-- what the laws of runs with given marks say
pub record ReplayLaws (scope : Scope) : Type 0 where
  pub of_marks : MarkLaws scope
  pub fronts : (rows more : List Event) (marks : List (ℕ × Mark))
      → HasMarkedRun scope (rows ++ more) marks → SplitAt scope rows marks
  pub one_report : (rows : List Event) (marks : List (ℕ × Mark)) (a b : Report)
      → IsReplayReport scope rows marks a → IsReplayReport scope rows marks b → a ≡ b
  pub one_fault : (rows : List Event) (marks : List (ℕ × Mark)) (row : Event)
      (mark : Option Mark) (a b : ReplayFault) → IsReplayFault scope rows marks row mark a
      → IsReplayFault scope rows marks row mark b → a ≡ b

-- Marks up to a row, and those past it.

-- a mark stands at a row or before it, or after it
abbrev pub IsUpTo : ℕ → ℕ × Mark → Type 0
IsUpTo row mark = mark.0 ≤ row

abbrev IsPast : ℕ → ℕ × Mark → Type 0
IsPast row mark = row < mark.0

-- marks fall in one way into those up to a row and those past it
parted : (row : ℕ) (front back start rest : Marks) → front ++ back ≡ start ++ rest
    → All (IsUpTo row) front → All (IsPast row) back → All (IsUpTo row) start
    → All (IsPast row) rest → (front ≡ start) × (back ≡ rest)
parted row [] back [] rest same low high least most = (refl, same)
parted row [] back (mark ∷ start) rest same low high least most =
    absurd (omega (arith, least 0 mark (omega arith), (rw same at high) 0 mark (omega arith)))
parted row (mark ∷ front) back [] rest same low high least most =
    absurd (omega (arith, low 0 mark (omega arith), (rw (sym same) at most) 0 mark (omega arith)))
parted row (mark ∷ front) back (next ∷ start) rest same low high least most =
    let others = parted row front back start rest (cc same) (All-tail (IsUpTo row) mark front low)
    high (All-tail (IsUpTo row) next start least) most in
    (cc (same, others.0), others.1)

-- marks that rise above a row are past all up to it
past_of : (row least : ℕ) (marks : Marks) → row ≤ least → RiseAbove least marks
    → All (IsPast row) marks
past_of row least [] below rise = All-nil (IsPast row)
past_of row least (mark ∷ marks) below rise =
    All-cons (IsPast row) mark marks (omega (arith, rise.0))
    (past_of row mark.0 marks (omega (arith, rise.0)) rise.1)

-- marks whose rows rise do so above what is before all
rises : (least : ℕ) (marks : Marks) → Rise marks → All (IsPast least) marks
    → RiseAbove least marks
rises least [] rise all = tt
rises least (mark ∷ marks) rise all =
    (All-head (IsPast least) mark marks all, rises mark.0 marks rise.1 rise.0)

-- the first of marks that rise do so
front_rises : (least : ℕ) (marks : Marks) (mark : ℕ × Mark) (more : Marks)
    → RiseAbove least (marks ++ mark ∷ more) → RiseAbove least (marks ++ mark ∷ [])
front_rises least [] mark more rise = (rise.0, tt)
front_rises least (first ∷ marks) mark more rise =
    (rise.0, front_rises first.0 marks mark more rise.1)

-- marks up to a row, with that of the next one
upto_with : (row : ℕ) (mark : Option Mark) (marks : Marks) → All (IsUpTo row) marks
    → All (IsUpTo (row + 1)) (with_mark (row + 1) mark marks)
upto_with row None marks low = λ k mark lt. omega (arith, low k mark lt)
upto_with row (Some mark) marks low =
    let below : All (IsUpTo (row + 1)) marks = λ k mark lt. omega (arith, low k mark lt) in
    All-push (IsUpTo (row + 1)) marks (row + 1, mark) below (omega arith)

-- The marks of a run stand at its rows, from 1, and rise.
module _ (scope : Scope) (laws : MarkLaws scope) (rows : List Event) (marks : List (ℕ × Mark))
    (reached : HasMarkedRun scope rows marks) where
  within_run : All (StandsWithin (length rows)) marks
  within_run =
      let its = reached.1.run in
      rw reached.1.are at (rw its.act_list.whole at
      (laws.within its.pieces (choices_in its) its.act_list.in_order))

  pub upto_run : All (IsUpTo (length rows)) marks
  upto_run = λ k mark lt. (within_run k mark lt).1

  pub rising_run : RiseAbove 0 marks
  rising_run =
      let its = reached.1.run in
      rises 0 marks
      (rw reached.1.are at (laws.rise its.pieces (choices_in its) its.act_list.in_order))
      (λ k mark lt. omega (arith, (within_run k mark lt).0))

-- What fields are.

-- fields that are a row aren't taken for those of a mark row
pub row_not_mark : (fields : List (List ℕ)) (event : Event) → IsRow fields event → IsForMark fields
    → ⊥
row_not_mark fields event row own = grind (arith, common_steps)

-- the fields of a mark row are taken for those of one
for_mark : (fields : Fields) (mark : ℕ × Mark) → IsMarkRow fields mark → IsForMark fields
for_mark fields mark is =
    record { number = is.number; mark = mark.1; value = dash; are = is.are }

-- fields are a mark row of one mark
mark_one : (fields : Fields) (one other : ℕ × Mark) → IsMarkRow fields one
    → IsMarkRow fields other → one ≡ other
mark_one fields one other p q = grind (arith, common_steps)

-- a refusal of a mark row is of fields that are taken for those of one
own_of : (rows : List Event) (fields : Fields) (fault : RowFault) → IsMarkRefusal rows fields fault
    → IsForMark fields
own_of rows fields FieldCount is = absurd is
own_of rows fields other is = is.0

-- a mark row before the rows isn't refused
mark_not_refused : (rows : List Event) (fields : Fields) (fault : RowFault) (mark : ℕ × Mark)
    → IsMarkRefusal rows fields fault → IsMarkRow fields mark → rows ≡ [] → ⊥
mark_not_refused rows fields fault mark is row none = grind (arith, common_steps)

-- it has one refusal
one_mark_refusal : (rows : List Event) (fields : Fields) (a b : RowFault)
    → IsMarkRefusal rows fields a → IsMarkRefusal rows fields b → a ≡ b
one_mark_refusal rows fields a b p q = grind (arith, common_steps)

-- Of two readings of records, both are one, or one goes on after the other.

-- the next record is a mark row, or a row
abbrev NextIs : Fields → List Event → Marks → List Event → Type 0
NextIs fields rows (mark ∷ later) longer = IsMarkRow fields mark × (rows ≡ [])
NextIs fields rows [] longer =
    (event : Event) × (later : List Event) × IsRow fields event × (longer ≡ rows ++ event ∷ later)

abbrev Goes : Marks → List Event → Records → Marks → List Event → Type 0
Goes marks rows rest others events =
    (fields : Fields) × (after : Records) × (rest ≡ fields ∷ after) × (more : Marks)
    × (others ≡ marks ++ more) × NextIs fields rows more events

-- with one mark more in front
goes_lifted : (mark : ℕ × Mark) (marks others : Marks) (rows events : List Event) (rest : Records)
    → Goes marks rows rest others events → Goes (mark ∷ marks) rows rest (mark ∷ others) events
goes_lifted mark marks others rows events rest (fields, after, is, more, longer, next) =
    (fields, after, is, more, ap (λ ms. mark ∷ ms) longer, next)

-- rows alone
goes_by_row : (rows events : List Event) (rest : Records) → GoesOn rows events rest
    → Goes [] rows rest [] events
goes_by_row rows events rest on =
    (on.fields, on.after, on.record_is, [], refl, (on.event, on.more, on.row, on.longer_is))

-- no rows were read, and the next record is a mark row
mark_next : (transcript : Records) (rows : List Event) (rest : Records) (fields : Fields)
    (after : Records) (mark : ℕ × Mark) (later : Marks) (events : List Event)
    → AreRows transcript rows → IsMarkRow fields mark → transcript ++ rest ≡ fields ∷ after
    → Goes [] rows rest (mark ∷ later) events
mark_next [] [] rest fields after mark later events told is same =
    (fields, after, same, mark ∷ later, refl, (is, refl))
mark_next (first ∷ transcript) (row ∷ rows) rest fields after mark later events told is same =
    let here : first ≡ fields = cc same in
    absurd (row_not_mark fields row (rw here at told.0) (for_mark fields mark is))
mark_next transcript rows rest fields after mark later events told is same = absurd told

module _ (rest left : Records) where
  abbrev Compared : Marks → List Event → Marks → List Event → Type 0
  Compared marks rows others events = ((marks ≡ others) × (rows ≡ events) × (rest ≡ left))
      ⊎ (Goes marks rows rest others events ⊎ Goes others events left marks rows)

  lifted : (mark : ℕ × Mark) (marks others : Marks) (rows events : List Event)
      → Compared marks rows others events → Compared (mark ∷ marks) rows (mark ∷ others) events
  lifted mark marks others rows events (inl same) =
      inl (ap (λ ms. mark ∷ ms) same.0, same.1, same.2)
  lifted mark marks others rows events (inr (inl on)) =
      inr (inl (goes_lifted mark marks others rows events rest on))
  lifted mark marks others rows events (inr (inr on)) =
      inr (inr (goes_lifted mark others marks events rows left on))

  compared_all : (done transcript others later : Records) (marks next : Marks)
      (rows events : List Event) → AreMarkRows done marks → AreRows transcript rows
      → AreMarkRows others next → AreRows later events
      → (done ++ transcript) ++ rest ≡ (others ++ later) ++ left → Compared marks rows next events
  compared_all [] transcript [] later [] [] rows events are told also heard same =
      elim (compared transcript later rest left rows events told heard same) [
        | inl both ↦ inl (refl, both.0, both.1)
        | inr (inl on) ↦ inr (inl (goes_by_row rows events rest on))
        | inr (inr on) ↦ inr (inr (goes_by_row events rows left on))
      ]
  compared_all [] transcript (first ∷ others) later [] (mark ∷ next) rows events are told also heard
      same =
      inr (inl (mark_next transcript rows rest first ((others ++ later) ++ left) mark next events
      told also.0 same))
  compared_all (first ∷ done) transcript [] later (mark ∷ marks) [] rows events are told also heard
      same =
      inr (inr (mark_next later events left first ((done ++ transcript) ++ rest) mark marks rows
      heard are.0 (sym same)))
  compared_all (fields ∷ done) transcript (first ∷ others) later (mark ∷ marks) (other ∷ next) rows
      events are told also heard same =
      let here : first ≡ fields = cc same in
      let one : other ≡ mark = mark_one fields other mark (rw here at also.0) are.0 in
      rw one (lifted mark marks next rows events
      (compared_all done transcript others later marks next rows events are.1 told also.1 heard
      (cc same)))
  compared_all done transcript others later marks next rows events are told also heard same =
      absurd (search)

-- What the record after a part is.

-- what is answered for a fault of a row with its mark, for a record that is refused, and for a stop
abbrev as_answer : ReplayFault → Answer
as_answer (faults.Offence offence) = Ok (No offence)
as_answer (faults.Mark row) = Err (marked.Mark row)

abbrev bad : InputPart → RowFault → Answer
bad part fault = Err (marked.Run (run.BadRow (records_in part + 1) fault))

abbrev stop_answer : Result Offence MarkedFault → Answer
stop_answer (Ok offence) = Ok (No offence)
stop_answer (Err fault) = Err fault

-- A record is taken, or the reading stops at it. Then it is refused, or it is one too many. Or it
-- is faulty: a mark row with which the marks don't rise, or a row that cannot be with its mark.
data Way : Type 0 where
  Taken : Way
  Refused : Way
  TooMany : Way
  Faulty : Way

module _ (scope : Scope) (laws : ReplayLaws scope) (limit : ℕ) where
  -- the mark of the next row, and a run with that row
  abbrev mark_of : InputPart → Option Mark
  mark_of part = mark_at (length part.rows + 1) part.later

  abbrev HasRun : InputPart → Event → Type 0
  HasRun part event = HasMarkedRun scope (part.rows ++ event ∷ [])
      (with_mark (length part.rows + 1) (mark_of part) part.passed)

  module _ (part : InputPart) (fields : Fields) where
    -- What is answered at a record with the fields of a mark row. At one that is taken it is
    -- nothing.
    abbrev MarkNext : Option Answer → Way → Type 0
    MarkNext answer Taken = (mark : ℕ × Mark) × IsMarkRow fields mark × (part.rows ≡ [])
        × (length (all_marks part) < limit) × RiseAbove 0 (all_marks part ++ mark ∷ [])
        × (answer ≡ None)
    MarkNext answer Refused = (fault : RowFault) × IsMarkRefusal part.rows fields fault
        × (part.rows ≡ [] → length (all_marks part) < limit) × (answer ≡ Some (bad part fault))
    MarkNext answer TooMany = (part.rows ≡ []) × (length (all_marks part) ≡ limit)
        × (answer ≡ Some (Err (marked.Run run.TooLong)))
    MarkNext answer Faulty =
        (row : ℕ) × DoesNotRise limit part fields row × (answer ≡ Some (Err (marked.Mark row)))

    -- The same of a record with other fields.
    abbrev RowNext : Option Answer → Way → Type 0
    RowNext answer Taken = (event : Event) × IsRow fields event × (length part.rows < limit)
        × HasRun part event × (answer ≡ None)
    RowNext answer Refused = (fault : RowFault) × IsRefusal fields fault
        × (length part.rows < limit) × (answer ≡ Some (bad part fault))
    RowNext answer TooMany =
        (length part.rows ≡ limit) × (answer ≡ Some (Err (marked.Run run.TooLong)))
    RowNext answer Faulty = (event : Event) × IsRow fields event × (length part.rows < limit)
        × (fault : ReplayFault)
        × IsReplayFault scope part.rows part.passed event (mark_of part) fault
        × (answer ≡ Some (as_answer fault))

    -- The same of any record.
    abbrev Next : Option Answer → Type 0
    Next answer = (IsForMark fields × (way : Way) × MarkNext answer way)
        ⊎ ((IsForMark fields → ⊥) × (way : Way) × RowNext answer way)

    -- why the reading stops is such a way
    stop_of : (stop : Result Offence MarkedFault) → IsStopAt scope limit part fields stop
        → IsOwnReplay (stop_answer stop) → Next (Some (stop_answer stop))
    stop_of (Ok offence) is own = inr (
      row_not_mark fields is.event is.is_row,
      Faulty,
      (is.event, is.is_row, is.few, faults.Offence offence, is.is, refl),
    )
    stop_of (Err (marked.Run (run.BadRow row fault))) (number, inl is) own =
        inl (own_of part.rows fields fault is.1, Refused, (fault, is.1, is.0, cc number))
    stop_of (Err (marked.Run (run.BadRow row fault))) (number, inr is) own =
        inr (is.0, Refused, (fault, is.2, is.1, cc number))
    stop_of (Err (marked.Run run.TooLong)) (inl is) own =
        inl (is.0, TooMany, (is.1, is.2, refl))
    stop_of (Err (marked.Run run.TooLong)) (inr is) own = inr (is.0, TooMany, (is.1, refl))
    stop_of (Err (marked.Mark row)) (inl is) own =
        inl (for_mark fields (row, is.mark) is.is_row, Faulty, (row, is, refl))
    stop_of (Err (marked.Mark row)) (inr is) own = inr (
      row_not_mark fields is.event is.is_row,
      Faulty,
      (is.event, is.is_row, is.few, faults.Mark row, is.is, refl),
    )
    stop_of (Err (marked.Run fault)) is own = absurd own

    -- Two ways of a record with the fields of a mark row have one answer.
    one_mark : (a b : Option Answer) (way other : Way) → MarkNext a way → MarkNext b other
        → a ≡ b
    one_mark a b Refused Refused p q =
        cc (p.3, q.3, one_mark_refusal part.rows fields p.0 q.0 p.1 q.1)
    one_mark a b Taken Refused p q = absurd (mark_not_refused part.rows fields q.0 p.0 q.1 p.1 p.2)
    one_mark a b Refused Taken p q = absurd (mark_not_refused part.rows fields p.0 q.0 p.1 q.1 q.2)
    one_mark a b Faulty Refused p q = absurd (mark_not_refused part.rows fields q.0
        (p.0, p.1.mark) q.1 p.1.is_row p.1.before)
    one_mark a b Refused Faulty p q = absurd (mark_not_refused part.rows fields p.0
        (q.0, q.1.mark) p.1 q.1.is_row q.1.before)
    one_mark a b way other p q = grind (arith, common_steps)

    -- a faulty row has no run
    not_reached : (event : Event) (fault : ReplayFault)
        → IsReplayFault scope part.rows part.passed event (mark_of part) fault
        → HasRun part event → ⊥
    not_reached event (faults.Offence offence) is = is.not_reached
    not_reached event (faults.Mark row) is = is.not_reached

    -- So have two ways of any other record.
    one_row : (a b : Option Answer) (way other : Way) → RowNext a way → RowNext b other → a ≡ b
    one_row a b Taken Taken p q = cc (p.4, q.4)
    one_row a b Refused Refused p q = cc (p.3, q.3, one_refusal fields p.0 q.0 p.1 q.1)
    one_row a b TooMany TooMany p q = cc (p.1, q.1)
    one_row a b Faulty Faulty p q =
        let fault : p.3 ≡ q.3 = laws.one_fault part.rows part.passed q.0 (mark_of part) p.3 q.3
        (rw (row_one fields p.0 q.0 p.1 q.1) at p.4) q.4 in
        p.5 ∙ (ap (λ f. Some (as_answer f)) fault ∙ sym q.5)
    one_row a b Taken Faulty p q =
        absurd (not_reached q.0 q.3 q.4 (rw (row_one fields p.0 q.0 p.1 q.1) at p.3))
    one_row a b Faulty Taken p q =
        absurd (not_reached p.0 p.3 p.4 (rw (row_one fields q.0 p.0 q.1 p.1) at q.3))
    one_row a b Taken Refused p q = absurd (row_not_refused fields p.0 q.0 p.1 q.1)
    one_row a b Faulty Refused p q = absurd (row_not_refused fields p.0 q.0 p.1 q.1)
    one_row a b Refused Taken p q = absurd (row_not_refused fields q.0 p.0 q.1 p.1)
    one_row a b Refused Faulty p q = absurd (row_not_refused fields q.0 p.0 q.1 p.1)
    one_row a b way other p q = absurd (omega arith)

    one_next : (a b : Option Answer) → Next a → Next b → a ≡ b
    one_next a b (inl p) (inl q) = one_mark a b p.1 q.1 p.2 q.2
    one_next a b (inr p) (inr q) = one_row a b p.1 q.1 p.2 q.2
    one_next a b (inl p) (inr q) = absurd (q.0 p.0)
    one_next a b (inr p) (inl q) = absurd (p.0 q.0)

  -- Where a part that can be is longer, the shorter one goes on.

  more_row : (part longer : InputPart) (event : Event) (more : List Event)
      → CanBe scope limit part → CanBe scope limit longer → all_marks longer ≡ all_marks part
      → longer.rows ≡ part.rows ++ event ∷ more → (length part.rows < limit) × HasRun part event
  more_row part longer event more can may marks rows =
      let row : ℕ = length part.rows in
      let count : length (part.rows ++ event ∷ []) ≡ row + 1 =
      length-append part.rows (event ∷ []) in
      let many : length longer.rows ≡ row + 1 + length more =
      omega (arith, ap length rows, length-append part.rows (event ∷ more)) in
      let cut = laws.fronts (part.rows ++ event ∷ []) more longer.passed
      (rw (rows, ← append_assoc part.rows (event ∷ []) more) at may.reached) in
      let next = later_marks row part.later (mark_of part) refl can.beyond in
      let with_it : Marks = with_mark (row + 1) (mark_of part) part.passed in
      let whole : cut.front ++ (cut.back ++ longer.later) ≡ with_it ++ next.rest =
      rw (← append_assoc cut.front cut.back longer.later, ← cut.are)
      (marks ∙ next.are part.passed) in
      let same = parted (row + 1) cut.front (cut.back ++ longer.later) with_it next.rest whole
      (rw count at cut.within)
      (All-append (IsPast (row + 1)) cut.back longer.later (rw count at cut.after)
      (past_of (row + 1) (length longer.rows) longer.later (omega (arith, many)) may.beyond))
      (upto_with row (mark_of part) part.passed
      (upto_run scope laws.of_marks part.rows part.passed can.reached))
      (past_of (row + 1) (row + 1) next.rest (omega arith) next.beyond) in
      (omega (arith, many, may.few_rows), rw same.0 at cut.reached)

  -- Where the records of an answer end.

  -- how an answer ends where all records are taken
  abbrev IsFinish : InputPart → Option Answer → Type 0
  IsFinish part (Some (Ok (Yes report))) =
      (part.later ≡ []) × IsReplayReport scope part.rows part.passed report
  IsFinish part (Some (Err (marked.Mark row))) =
      (mark : Mark) × (more : Marks) × (part.later ≡ (row, mark) ∷ more)
  IsFinish part answer = ⊥

  -- and after a part
  abbrev After : InputPart → Records → Option Answer → Type 0
  After part [] answer = IsFinish part answer
  After part (fields ∷ rest) answer = Next part fields answer

  -- so it is one
  one_finish : (part : InputPart) (a b : Option Answer) → IsFinish part a → IsFinish part b
      → a ≡ b
  one_finish part (Some (Ok (Yes a))) (Some (Ok (Yes b))) p q =
      cc (laws.one_report part.rows part.passed a b p.1 q.1)
  one_finish part (Some (Err (marked.Mark row))) (Some (Err (marked.Mark other))) p q =
      let one : ℕ × Mark = (row, p.0) in
      let next : ℕ × Mark = (other, q.0) in
      let same : one ≡ next = cc (p.2, q.2) in
      ap (λ (m : ℕ × Mark). Some (Err (marked.Mark m.0))) same
  one_finish part (Some (Ok (Yes a))) (Some (Err (marked.Mark row))) p q = absurd (cc (p.0, q.2))
  one_finish part (Some (Err (marked.Mark row))) (Some (Ok (Yes b))) p q = absurd (cc (p.2, q.0))
  one_finish part a b p q = absurd (search)

  one_after : (part : InputPart) (rest : Records) (a b : Option Answer) → After part rest a
      → After part rest b → a ≡ b
  one_after part [] a b p q = one_finish part a b p q
  one_after part (fields ∷ rest) a b p q = one_next part fields a b p q

  -- the record with which a longer part goes on is taken
  taken : (part longer : InputPart) (rest : Records) → CanBe scope limit part
      → CanBe scope limit longer
      → Goes (all_marks part) part.rows rest (all_marks longer) longer.rows
      → After part rest None
  taken part longer rest can may (fields, after, is, mark ∷ later, same, (row, none)) =
      let many = length-append (all_marks part) (mark ∷ later) in
      rw is (inl (
        for_mark fields mark row,
        Taken,
        (
          mark,
          row,
          none,
          omega (arith, may.few_marks, ap length same, many),
          front_rises 0 (all_marks part) mark later (rw same at may.rising),
          refl,
        ),
      ))
  taken part longer rest can may (fields, after, is, [], same, (event, later, row, longer_is)) =
      let goes = more_row part longer event later can may
      (same ∙ append-nil (all_marks part)) longer_is in
      rw is (inr (row_not_mark fields event row, Taken, (event, row, goes.0, goes.1, refl)))

  module _ (records : List (List (List ℕ))) where
    record Ends (answer : Answer) : Type 0 where
      part : InputPart
      rest : Records
      leads : LeadUpToPart scope limit records part rest
      by : After part rest (Some answer)

    no_longer : (a b : Answer) (one : Ends a) (other : Ends b)
        → Goes (all_marks one.part) one.part.rows one.rest (all_marks other.part) other.part.rows
        → ⊥
    no_longer a b one other on =
        let goes = taken one.part other.part one.rest one.leads.can_be other.leads.can_be on in
        cc (one_after one.part one.rest (Some a) None one.by goes)

    -- the parts of two answers are one, and so is what stands after them
    one_part : (a b : Answer) (one : Ends a) (other : Ends b)
        → (one.part ≡ other.part) × (one.rest ≡ other.rest)
    one_part a b one other = by (compared_all one.rest other.rest one.leads.mark_rows
        one.leads.transcript other.leads.mark_rows other.leads.transcript (all_marks one.part)
        (all_marks other.part) one.part.rows other.part.rows one.leads.are_marks one.leads.are_rows
        other.leads.are_marks other.leads.are_rows (sym one.leads.split ∙ other.leads.split))
      where
        by : Compared one.rest other.rest (all_marks one.part) one.part.rows (all_marks other.part)
            other.part.rows → (one.part ≡ other.part) × (one.rest ≡ other.rest)
        by (inl same) =
            let row : ℕ = length other.part.rows in
            let count : length one.part.rows ≡ row = ap length same.1 in
            let parts = parted row one.part.passed one.part.later other.part.passed other.part.later
            same.0
            (rw count at (upto_run scope laws.of_marks one.part.rows one.part.passed
            one.leads.can_be.reached))
            (past_of row (length one.part.rows) one.part.later (omega (arith, count))
            one.leads.can_be.beyond)
            (upto_run scope laws.of_marks other.part.rows other.part.passed
            other.leads.can_be.reached)
            (past_of row row other.part.later (omega arith) other.leads.can_be.beyond) in
            (λ i. record { rows = same.1 i; passed = parts.0 i; later = parts.1 i }, same.2)
        by (inr (inl on)) = absurd (no_longer a b one other on)
        by (inr (inr on)) = absurd (no_longer b a other one on)

    -- Each answer ends somewhere.

    yes_ends : (report : Report) → IsReplayed scope limit records report → Ends (Ok (Yes report))
    yes_ends report is =
        let reached : HasMarkedRun scope is.rows is.marks = (is.is.sums, is.is.reached) in
        record {
          part = record { rows = is.rows; passed = is.marks; later = [] };
          rest = [];
          leads = record {
            mark_rows = is.mark_rows;
            transcript = is.transcript;
            split = rw append-nil is.split;
            are_marks = rw append-nil is.are_marks;
            are_rows = is.are_rows;
            can_be = record {
              rising = rw append-nil (rising_run scope laws.of_marks is.rows is.marks reached);
              beyond = tt;
              few_marks = rw append-nil is.few_marks;
              few_rows = is.few_rows;
              reached = reached;
            };
          };
          by = (refl, is.is);
        }

    stop_ends : (stop : Result Offence MarkedFault) → StopsAt scope limit records stop
        → IsOwnReplay (stop_answer stop) → Ends (stop_answer stop)
    stop_ends stop is own = record {
      part = is.part;
      rest = is.fields ∷ is.rest;
      leads = is.leads;
      by = stop_of is.part is.fields stop is.is own;
    }

    ends : (answer : Answer) → IsReplayAnswer scope limit records answer → IsOwnReplay answer
        → Ends answer
    ends (Ok (Yes report)) is own = yes_ends report is
    ends (Ok (No offence)) is own = stop_ends (Ok offence) is own
    ends (Err (marked.Run (run.BadRow row fault))) is own =
        stop_ends (Err (marked.Run (run.BadRow row fault))) is own
    ends (Err (marked.Run run.TooLong)) is own = stop_ends (Err (marked.Run run.TooLong)) is own
    ends (Err (marked.Run fault)) is own = absurd own
    ends (Err (marked.Mark row)) (inl is) own = stop_ends (Err (marked.Mark row)) is own
    ends (Err (marked.Mark row)) (inr is) own = record {
      part = is.part;
      rest = [];
      leads = is.leads;
      by = (is.mark, is.more, is.first);
    }

    -- the answer to the records of an input is one
    pub one_replay_answer : (a b : Result Outcome MarkedFault)
        → IsReplayAnswer scope limit records a → IsReplayAnswer scope limit records b
        → IsOwnReplay a → IsOwnReplay b → a ≡ b
    one_replay_answer a b p q own also =
        let one = ends a p own in
        let other = ends b q also in
        let same = one_part a b one other in
        cc (one_after other.part other.rest (Some a) (Some b)
        (rw same.1 at (rw same.0 at one.by)) other.by)
