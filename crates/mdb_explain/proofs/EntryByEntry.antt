-- How the replay of entries goes on, and where it stops.
use Rattle.mdb_explain.proofs.Words.{BadLine, BadTime, BadValue, Bool, Entry, Err, Event, HasMarkedRun, HasReplayed, InputPart, IsBadMark, IsEntry, IsMarkRefusal, IsRefusedAfter, IsReplayFault, IsStopAt, IsStoppedAt, List, Mark, MarkedFault, None, Offence, Option, ROWS_MAX, ReplayFault, Replaying, Result, RiseAbove, RowFault, Scope, Some, StandsFor, [], all_marks, ap, append-nil, append_assoc, arith, dash, empty, entries_of, false, if◌then◌else◌, inl, inr, is_some, length, length-append, length-map, map, map_push, mark_at, mark_entry, records_in, refl, rows_of, scope_of, stop_by, suc, sym, true, with_mark, ℕ, ◌++◌, ◌+◌, ◌<◌, ◌==◌, ◌↔◌, ◌∙◌, ◌∷◌, ◌≡◌, ◌≢◌, ◌≤◌}
use Rattle.std.proofs.lemmas.Bool.Decides.{nat_tests}
use Rattle.mdb_run_search.specs.declared.replay.ReplayFault.TheVariants as faults
use Rattle.mdb_explain.specs.declared.entry.Entry.TheVariants as entries
use Rattle.mdb_explain.specs.declared.fault.MarkedFault.TheVariants as marked
use Rattle.mdb_verdict.specs.declared.fault.RunFault.TheVariants as run

-- How many entries those of a part are.
pub entries_count : (part : InputPart) → length (entries_of part) ≡ records_in part
entries_count part = simp (length-append, length-map)

-- Marks.

-- the rows of marks rise with two more where they do with the first of these, and the second is
-- above it
rise_more : (least : ℕ) (marks : List (ℕ × Mark)) (mark next : ℕ × Mark)
    → RiseAbove least (marks ++ mark ∷ [])
    → RiseAbove least ((marks ++ mark ∷ []) ++ next ∷ []) ↔ (mark.0 < next.0)
rise_more least [] mark next rise = (λ both. both.1.0, λ above. (rise.0, (above, tt)))
rise_more least (first ∷ marks) mark next rise =
    let more = rise_more first.0 marks mark next rise.1 in
    (λ both. more.0 both.1, λ above. (rise.0, more.1 above))

-- they rise above anything below, and so do the last of them
rise_lower : (least row : ℕ) (marks : List (ℕ × Mark)) → least ≤ row → RiseAbove row marks
    → RiseAbove least marks
rise_lower least row [] below rise = tt
rise_lower least row (mark ∷ marks) below rise = (omega (arith, below, rise.0), rise.1)

rise_last : (least : ℕ) (marks more : List (ℕ × Mark)) → RiseAbove least (marks ++ more)
    → RiseAbove least more
rise_last least [] more rise = rise
rise_last least (mark ∷ marks) more rise =
    rise_lower least mark.0 more (omega (arith, rise.0)) (rise_last mark.0 marks more rise.1)

-- The mark of the next row, which stands first among the later ones if there is one, and those past
-- that row.
pub record LaterMarks (row : ℕ) (later : List (ℕ × Mark)) (mark : Option Mark) : Type 0 where
  pub rest : List (ℕ × Mark)
  pub are : (passed : List (ℕ × Mark)) → passed ++ later ≡ with_mark (row + 1) mark passed ++ rest
  pub beyond : RiseAbove (row + 1) rest

same_number : (x y : ℕ) → (x == y) ≡ true → x ≡ y
same_number x y h = grind (arith, nat_tests)

above_by : (x n : ℕ) → n < x → (x == n + 1) ≡ false → n + 1 < x
above_by x n up other = grind (arith, nat_tests)

pub later_marks : (row : ℕ) (later : List (ℕ × Mark)) (mark : Option Mark)
    → mark ≡ mark_at (row + 1) later → RiseAbove row later → LaterMarks row later mark
later_marks row [] mark here above =
    record { rest = []; are = λ passed. rw here refl; beyond = tt }
later_marks row (first ∷ more) mark here above = by (first.0 == row + 1) refl
  where
    by : (b : Bool) → (first.0 == row + 1) ≡ b → LaterMarks row (first ∷ more) mark
    by true is =
        let same : first.0 ≡ row + 1 = same_number first.0 (row + 1) is in
        record {
          rest = more;
          are = λ passed. rw (here ∙ ap (λ b. if b then Some first.1 else None) is, append_assoc)
              (ap (λ n. passed ++ (n, first.1) ∷ more) same);
          beyond = rw same at above.1;
        }
    by false is = record {
      rest = first ∷ more;
      are = λ passed. rw (here ∙ ap (λ b. if b then Some first.1 else None) is);
      beyond = (above_by first.0 row above.0 is, above.1);
    }

-- how many marks are passed with that of a row
abbrev pub passed_with : Option Mark → ℕ → ℕ
passed_with None passed = passed
passed_with (Some mark) passed = passed + 1

passed_more : (row : ℕ) (mark : Option Mark) (marks : List (ℕ × Mark))
    → passed_with mark (length marks) ≡ length (with_mark row mark marks)
passed_more row None marks = refl
passed_more row (Some mark) marks = sym (length-append marks ((row, mark) ∷ []))

pub passed_one : (mark : Option Mark) (n : ℕ) → is_some mark ≡ true → n + 1 ≡ passed_with mark n
passed_one None n some = absurd (cc)
passed_one (Some mark) n some = refl

pub passed_none : (mark : Option Mark) (n : ℕ) → is_some mark ≡ false → n ≡ passed_with mark n
passed_none None n none = refl
passed_none (Some mark) n none = absurd (cc)

-- the entries of a part with one mark more, before the rows, and with one row more
module _ {taken : List Entry} (marks more : List (ℕ × Mark)) (rows : List Event)
    (are : taken ≡ map mark_entry marks ++ map entries.Row rows) where
  mark_added : (mark : ℕ × Mark) → rows ≡ [] → more ≡ marks ++ mark ∷ []
      → taken ++ mark_entry mark ∷ [] ≡ map mark_entry more ++ map entries.Row rows
  mark_added mark none is = rw (are, none, is) (simp (append-nil, map_push))

  row_added : (event : Event) → more ≡ marks → taken ++ entries.Row event ∷ []
      ≡ map mark_entry more ++ map entries.Row (rows ++ event ∷ [])
  row_added event is = rw (are, is) (simp (append_assoc, map_push))

-- Before the first entry.

pub starts : (scope : Scope) (taker : Replaying) → scope_of taker.replay ≡ scope
    → StandsFor taker.replay [] [] → HasMarkedRun scope [] [] → rows_of taker.replay ≡ 0
    → taker.marks.items ≡ [] → taker.last ≡ 0 → taker.passed ≡ 0 → HasReplayed scope taker []
starts scope taker in_scope stands reached counted none last passed = record {
  in_scope = in_scope;
  part = record { rows = []; passed = []; later = [] };
  are = refl;
  can_be = record {
    rising = tt;
    beyond = tt;
    few_marks = omega arith;
    few_rows = omega arith;
    reached = reached;
  };
  stands = stands;
  counted = counted;
  marks = none;
  count = omega (arith, counted, ap length none);
  passed = passed;
  last = λ row mark. rw last (λ rise. rise.0, λ above. (above, tt));
}

-- After entries that were taken.
module _ (scope : Scope) (old : Replaying) (taken : List Entry)
    (has : HasReplayed scope old taken) where
  abbrev pub part : InputPart
  part = has.part

  -- before a row there are none
  no_rows : rows_of old.replay ≡ 0 → part.rows ≡ []
  no_rows none = empty part.rows (omega (arith, has.counted, none))

  -- a mark is added
  pub added : (new : Replaying) (row : ℕ) (mark : Mark) → rows_of old.replay ≡ 0
      → length old.marks.items < ROWS_MAX → old.last < row → new.replay ≡ old.replay
      → new.marks.items ≡ old.marks.items ++ (row, mark) ∷ [] → new.last ≡ row
      → new.passed ≡ old.passed → HasReplayed scope new (taken ++ entries.Mark row mark ∷ [])
  added new row mark none few above same pushed last passed =
      let all : part.passed ++ (part.later ++ (row, mark) ∷ [])
      ≡ all_marks part ++ (row, mark) ∷ [] =
      sym (append_assoc part.passed part.later ((row, mark) ∷ [])) in
      let rise : RiseAbove 0 (all_marks part ++ (row, mark) ∷ []) = (has.last row mark).1 above in
      let count : length part.rows ≡ 0 = omega (arith, has.counted, none) in
      record {
        in_scope = rw same has.in_scope;
        part = record part { later = part.later ++ (row, mark) ∷ [] };
        are = mark_added (all_marks part) _ part.rows has.are (row, mark) (no_rows none) all;
        can_be = record {
          rising = rw all rise;
          beyond = rw count (rise_last 0 part.passed _ (rw all rise));
          few_marks = omega (
            arith,
            ap length all,
            ap length has.marks,
            few,
            length-append (all_marks part) ((row, mark) ∷ []),
          );
          few_rows = has.can_be.few_rows;
          reached = has.can_be.reached;
        };
        stands = rw same has.stands;
        counted = rw same has.counted;
        marks = pushed ∙ (ap (λ l. l ++ (row, mark) ∷ []) has.marks ∙ sym all);
        count = omega (
          arith,
          has.count,
          ap length pushed,
          ap rows_of same,
          length-append old.marks.items ((row, mark) ∷ []),
          length-append taken (entries.Mark row mark ∷ []),
        );
        passed = passed ∙ has.passed;
        last = λ other next.
            rw (all, last) (rise_more 0 (all_marks part) (row, mark) (other, next) rise);
      }

  -- a row is fed with its mark
  pub fed : (new : Replaying) (event : Event) (mark : Option Mark)
      → mark ≡ mark_at (rows_of old.replay + 1) part.later → rows_of old.replay < ROWS_MAX
      → StandsFor new.replay (part.rows ++ event ∷ [])
      (with_mark (rows_of old.replay + 1) mark part.passed)
      → HasMarkedRun (scope_of old.replay) (part.rows ++ event ∷ [])
      (with_mark (rows_of old.replay + 1) mark part.passed)
      → rows_of new.replay ≡ rows_of old.replay + 1 → scope_of new.replay ≡ scope_of old.replay
      → new.marks ≡ old.marks → new.last ≡ old.last → new.passed ≡ passed_with mark old.passed
      → HasReplayed scope new (taken ++ entries.Row event ∷ [])
  fed new event mark here few stands reached counted kept marks last passed =
      let row : ℕ = length part.rows in
      let more = later_marks row part.later mark (simp has.counted at here) has.can_be.beyond in
      let next : InputPart = record {
        rows = part.rows ++ event ∷ [];
        passed = with_mark (row + 1) mark part.passed;
        later = more.rest;
      } in
      let all : all_marks part ≡ all_marks next = more.are part.passed in
      let count : length next.rows ≡ row + 1 = length-append part.rows (event ∷ []) in
      record {
        in_scope = kept ∙ has.in_scope;
        part = next;
        are = row_added (all_marks part) _ part.rows has.are event (sym all);
        can_be = record {
          rising = rw (sym all) has.can_be.rising;
          beyond = rw count more.beyond;
          few_marks = rw (sym all) has.can_be.few_marks;
          few_rows = omega (arith, count, has.counted, few);
          reached = simp (has.counted, has.in_scope) at reached;
        };
        stands = simp has.counted at stands;
        counted = omega (arith, counted, has.counted, count);
        marks = rw marks (has.marks ∙ all);
        count = rw marks
            (omega (arith, has.count, counted, length-append taken (entries.Row event ∷ [])));
        passed = passed ∙ (ap (passed_with mark) has.passed
            ∙ passed_more (row + 1) mark part.passed);
        last = rw (sym all, last) has.last;
      }

  -- an entry is stopped at
  pub stop_at : {entry : Entry} {stop : Result Offence MarkedFault}
      → ((fields : List (List ℕ)) → IsEntry fields entry → IsStopAt scope ROWS_MAX part fields stop)
      → stop ≢ Err (marked.Run run.Write) → stop ≢ Err (marked.Run run.Read)
      → IsStoppedAt scope taken entry stop
  stop_at is no_write no_read = record {
    part = part;
    are = has.are;
    can_be = has.can_be;
    is = is;
    no_write = no_write;
    no_read = no_read;
  }

  -- at a row that cannot be with its mark, or where its mark may not stand
  pub faulted : (event : Event) (mark : Option Mark) (fault : ReplayFault)
      (stop : Result Offence MarkedFault) → mark ≡ mark_at (rows_of old.replay + 1) part.later
      → rows_of old.replay < ROWS_MAX
      → IsReplayFault (scope_of old.replay) part.rows part.passed event mark fault
      → stop ≡ stop_by fault → IsStoppedAt scope taken (entries.Row event) stop
  faulted event mark fault stop here few is stop_is =
      let same : mark ≡ mark_at (length part.rows + 1) part.later = simp has.counted at here in
      rw stop_is (by fault (simp (same, has.in_scope) at is))
    where
      by : (fault : ReplayFault) → IsReplayFault scope part.rows part.passed event
          (mark_at (length part.rows + 1) part.later) fault
          → IsStoppedAt scope taken (entries.Row event) (stop_by fault)
      by (faults.Offence offence) is = stop_at (λ fields row. record {
        event = event;
        is_row = row;
        few = omega (arith, has.counted, few);
        is = is;
      }) (λ same. cc) (λ same. cc)
      by (faults.Mark number) is = stop_at (λ fields row. inr (record {
        event = event;
        is_row = row;
        few = omega (arith, has.counted, few);
        is = is;
      })) (λ same. cc) (λ same. cc)

  -- at a record that is refused
  refused : (entry : Entry) (fault : RowFault) (told : MarkedFault)
      → ((fields : List (List ℕ)) → IsEntry fields entry
      → IsRefusedAfter ROWS_MAX part fields fault)
      → told ≡ marked.Run (run.BadRow (length old.marks.items + rows_of old.replay + 1) fault)
      → IsStoppedAt scope taken entry (Err told)
  refused entry fault told is told_is =
      rw told_is (stop_at (λ fields own. (
        omega (arith, ap length has.marks, has.counted),
        is fields own,
      )) (λ same. cc) (λ same. cc))

  -- there are rows
  some_rows : 0 < rows_of old.replay → part.rows ≡ [] → ⊥
  some_rows some none = omega (arith, has.counted, ap length none, some)

  -- a mark row after a row
  pub late_mark : (row : ℕ) (mark : Mark) (told : MarkedFault) → 0 < rows_of old.replay
      → told ≡ marked.Run (run.BadRow (length old.marks.items + rows_of old.replay + 1) BadLine)
      → IsStoppedAt scope taken (entries.Mark row mark) (Err told)
  late_mark row mark told some = refused (entries.Mark row mark) BadLine told (λ fields own. inl (
    λ none. absurd (some_rows some none),
    (
      record { number = own.number; mark = mark; value = dash; are = own.are },
      row,
      own.row,
      some_rows some,
    ),
  ))

  pub late_bad_mark : (fault : RowFault) (told : MarkedFault) → 0 < rows_of old.replay
      → fault ≢ BadTime
      → told ≡ marked.Run (run.BadRow (length old.marks.items + rows_of old.replay + 1) BadLine)
      → IsStoppedAt scope taken (entries.BadMark fault) (Err told)
  late_bad_mark fault told some other =
      refused (entries.BadMark fault) BadLine told (λ fields own. by fault fields other own)
    where
      by : (fault : RowFault) (fields : List (List ℕ)) → fault ≢ BadTime → IsBadMark fields fault
          → IsRefusedAfter ROWS_MAX part fields BadLine
      by BadValue fields other own =
          inl (λ none. absurd (some_rows some none), (own.0, own.1, own.2, some_rows some))
      by BadTime fields other own = absurd (other refl)
      by fault fields other own = absurd own

  pub bad_time : (fault : RowFault) (told : MarkedFault) → 0 < rows_of old.replay
      → fault ≡ BadTime
      → told ≡ marked.Run (run.BadRow (length old.marks.items + rows_of old.replay + 1) fault)
      → IsStoppedAt scope taken (entries.BadMark fault) (Err told)
  bad_time fault told some is = refused (entries.BadMark fault) fault told (λ fields own.
      inl (λ none. absurd (some_rows some none), rw is (rw is at own)))

  -- a mark row that is refused by itself, before the rows
  pub bad_mark : (fault : RowFault) (told : MarkedFault) → rows_of old.replay ≡ 0
      → length old.marks.items < ROWS_MAX
      → told ≡ marked.Run (run.BadRow (length old.marks.items + rows_of old.replay + 1) fault)
      → IsStoppedAt scope taken (entries.BadMark fault) (Err told)
  bad_mark fault told none few = refused (entries.BadMark fault) fault told (λ fields own.
      inl (λ before. omega (arith, ap length has.marks, few), by fault fields own))
    where
      by : (fault : RowFault) (fields : List (List ℕ)) → IsBadMark fields fault
          → IsMarkRefusal part.rows fields fault
      by BadTime fields own = own
      by BadValue fields own = (own.0, own.1, own.2, no_rows none, own.3)
      by fault fields own = absurd own

  -- memory is refused
  pub no_room : (entry : Entry) → IsStoppedAt scope taken entry (Err (marked.Run run.Memory))
  no_room entry = stop_at (λ fields own. tt) (λ same. cc) (λ same. cc)
