-- Marks: they tell what is chosen, and their rows rise.
use Rattle.mdb_run_search.proofs.Words.{arith, refl, sym, ap, subst, ◌∙◌, ◌≡◌, ◌↔◌, ℕ, ◌<◌, List, [], ◌∷◌, ◌++◌, length, length-append, All, Contains, Option, Some, None, true, Bool-set, same_from_push, All-append, All-contains, All-nil, All-tail, All-push, Contains-push, Event, Act, Scope, ArePieces, IsActList, Piece, Whole, acts_of, events_of, piece_events, contains-cases, contains-here, contains-none, contains-there, Choice, Plain, Lost, Restart, Again, CanStand, approves, Mark, AllFollow, Choices, ChoicesBy, choices_of, AllSums, IsWay, States, OneActList, split_with_choices, Loss, LossFits, Beginning, Rise, StandsWithin, choice_by, marks_at, marks_of, with_mark, MarkedRun, choices_in, append-nil, ◌⊎◌}
use Rattle.mdb_bus.specs.declared.act.Act.TheVariants as kinds
use Rattle.mdb_run_search.specs.declared.mark.Mark.TheVariants as marks

-- a mark stands before a row
abbrev pub IsBefore : ℕ → ℕ × Mark → Type 0
IsBefore row mark = mark.0 < row

-- a mark stands at a row
abbrev pub IsAt : ℕ → ℕ × Mark → Type 0
IsAt row mark = mark.0 ≡ row

-- the marks of a choice stand at their row
pub at_row : (row : ℕ) (choice : Choice) → All (IsAt row) (marks_at row choice)
at_row row Plain = All-nil (IsAt row)
at_row row choice = All-push (IsAt row) [] _ (All-nil (IsAt row)) refl

module _ (scope : Scope) where
  -- marks of pieces stand at rows of these
  pub all_within : (pieces : List Piece) (chosen : Choices (acts_of pieces))
      → ArePieces scope pieces
      → All (StandsWithin (length (events_of pieces))) (marks_of pieces chosen)
  all_within [] chosen are = All-nil _
  all_within (Whole act events ∷ pieces) chosen are =
      let row : ℕ = length (events_of pieces ++ events) in
      let rows = length-append (events_of pieces) events in
      let some = ap length are.1.begins in
      let within = all_within pieces chosen.before are.2 in
      All-append (StandsWithin row) (marks_of pieces chosen.before) (marks_at row chosen.choice)
      (λ k d inside. let is = within k d inside in omega (arith, is, rows))
      (λ k d inside. omega (arith, at_row row chosen.choice k d inside, rows, some))
  all_within (tail ∷ pieces) chosen are =
      let rows = length-append (events_of pieces) (piece_events tail) in
      λ k d inside.
      let is = all_within pieces chosen are.2 k d inside in omega (arith, is, rows)

  -- and before the row of one that comes after them
  pub all_before : (act : Act) (events : List Event) (pieces : List Piece)
      (chosen : Choices (acts_of pieces)) → ArePieces scope (Whole act events ∷ pieces)
      → All (IsBefore (length (events_of pieces ++ events))) (marks_of pieces chosen)
  all_before act events pieces chosen are k d inside =
      let some = ap length are.1.begins in
      let is = all_within pieces chosen are.2 k d inside in
      omega (arith, is, some, length-append (events_of pieces) events)

-- marks that rise do so with those of a row after them
pub rise-more : (row : ℕ) (choice : Choice) (so_far : List (ℕ × Mark)) → Rise so_far
    → All (IsBefore row) so_far → Rise (so_far ++ marks_at row choice)
rise-more row Plain [] rise before = tt
rise-more row choice [] rise before = (All-nil _, tt)
rise-more row choice (mark ∷ so_far) rise before =
    let less : mark.0 < row = before 0 mark (omega arith) in (
      All-append (λ later. mark.0 < later.0) so_far (marks_at row choice) rise.0
          (λ k d inside. let is = at_row row choice k d inside in omega (arith, is, less)),
      rise-more row choice so_far rise.1 (All-tail (IsBefore row) mark so_far before),
    )

-- the marks of pieces rise
pub marks_rise : (scope : Scope) (pieces : List Piece) (chosen : Choices (acts_of pieces))
    → ArePieces scope pieces → Rise (marks_of pieces chosen)
marks_rise scope [] chosen are = tt
marks_rise scope (Whole act events ∷ pieces) chosen are =
    rise-more _ chosen.choice (marks_of pieces chosen.before)
    (marks_rise scope pieces chosen.before are.2)
    (all_before scope act events pieces chosen.before are)
marks_rise scope (tail ∷ pieces) chosen are = marks_rise scope pieces chosen are.2

-- a choice stands on an act in one way
stands_alike : (act : Act) (choice : Choice) (one other : CanStand act choice) → one ≡ other
stands_alike act Plain one other = refl
stands_alike (kinds.Ack command) Lost one other = refl
stands_alike (kinds.VmcAck command reply) Lost one other = refl
stands_alike (kinds.Reply command reply) Restart one other = refl
stands_alike act Again one other = Bool-set (approves act) true one other
stands_alike _ _ one other = absurd one

-- so what is chosen of an act and of those before it is one by its choices
same_choices : (act : Act) (acts : List Act) (one other : ChoicesBy act (Choices acts))
    → one.choice ≡ other.choice → one.before ≡ other.before → one ≡ other
same_choices act acts one other same before =
    subst (λ choice. (stands : CanStand act choice) → one
    ≡ record { choice = choice; stands = stands; before = other.before }) same
    (λ stands i. record {
      choice = one.choice;
      stands = stands_alike act one.choice one.stands stands i;
      before = before i;
    }) other.stands

-- the choice of a mark, or of none, has that mark
pub at-mark : (row : ℕ) (mark : Option Mark) (so_far : List (ℕ × Mark))
    → so_far ++ marks_at row (choice_by mark) ≡ with_mark row mark so_far
at-mark row None so_far = append-nil so_far
at-mark row (Some marks.Lost) so_far = refl
at-mark row mark so_far = refl

-- a mark at a row is none of those before it
pub none_at : (row : ℕ) (mark : Mark) (so_far others : List (ℕ × Mark)) → All (IsBefore row) so_far
    → so_far ≡ others ++ (row, mark) ∷ [] → ⊥
none_at row mark so_far others before same =
    let less : row < row = All-contains (IsBefore row) so_far (row, mark) before
    (rw same (Contains-push others (row, mark))) in
    omega (arith, less)

-- marks with those of a choice at a later row tell of it, and of those before
same_parts : (row : ℕ) (one other : List (ℕ × Mark)) (choice next : Choice)
    → All (IsBefore row) one → All (IsBefore row) other
    → one ++ marks_at row choice ≡ other ++ marks_at row next
    → (one ≡ other) × (choice ≡ next)
same_parts row one other Plain Plain before also same =
    (sym (append-nil one) ∙ same ∙ append-nil other, refl)
same_parts row one other Plain next before also same =
    absurd (none_at row _ one other before (sym (append-nil one) ∙ same))
same_parts row one other choice Plain before also same =
    absurd (none_at row _ other one also (sym (append-nil other) ∙ sym same))
same_parts row one other choice next before also same =
    let both = same_from_push one other _ _ same in
    (both.0, ap (λ (m : ℕ × Mark). choice_by (Some m.1)) both.1)

-- choices with the same marks are the same
pub marks_tell : (scope : Scope) (pieces : List Piece) (one other : Choices (acts_of pieces))
    → ArePieces scope pieces → marks_of pieces one ≡ marks_of pieces other → one ≡ other
marks_tell scope [] one other are same = refl
marks_tell scope (Whole act events ∷ pieces) one other are same =
    let parts = same_parts (length (events_of pieces ++ events)) (marks_of pieces one.before)
    (marks_of pieces other.before) one.choice other.choice
    (all_before scope act events pieces one.before are)
    (all_before scope act events pieces other.before are) same in
    same_choices act (acts_of pieces) one other parts.1
    (marks_tell scope pieces one.before other.before are.2 parts.0)
marks_tell scope (tail ∷ pieces) one other are same = marks_tell scope pieces one other are.2 same

-- ways with the same choices join
abbrev pub JoinWithChoices : Type 0
JoinWithChoices = (scope : Scope) (pieces : List Piece) (chosen : Choices (acts_of pieces))
    (states : States) (sums : AllSums) → ArePieces scope pieces
    → AllFollow scope.begins (acts_of pieces) chosen states sums
    → (loss : Loss) × LossFits loss pieces
    × (way : IsWay scope.begins loss pieces states sums)
    × (choices_of scope.begins loss pieces states sums way ≡ chosen)

-- ways of each device with the same choices, and their marks
pub record WaysWith (begins : Beginning) (pieces : List Piece) (marks : List (ℕ × Mark))
    (states : States) (sums : AllSums) : Type 0 where
  pub chosen : Choices (acts_of pieces)
  pub ways : AllFollow begins (acts_of pieces) chosen states sums
  pub are : marks_of pieces chosen ≡ marks

module _ {scope : Scope} {rows : List Event} where
  -- ways with the same choices are a run with the marks of these
  pub marked-run : JoinWithChoices → {pieces : List Piece} → IsActList scope pieces rows
      → (chosen : Choices (acts_of pieces)) (states : States) (sums : AllSums)
      → AllFollow scope.begins (acts_of pieces) chosen states sums
      → MarkedRun scope rows (marks_of pieces chosen) sums
  marked-run joins {pieces} list chosen states sums ways =
      let found = joins scope pieces chosen states sums list.in_order ways in
      record {
        run = record {
          pieces = pieces;
          act_list = list;
          loss = found.0;
          fits = found.1;
          states = states;
          way = found.2;
        };
        are = ap (marks_of pieces) found.3;
      }

  -- and a run has such ways through the acts of the act list of its rows
  pub ways-of : OneActList scope → (pieces : List Piece) → IsActList scope pieces rows
      → {marks : List (ℕ × Mark)} {sums : AllSums} (marked : MarkedRun scope rows marks sums)
      → WaysWith scope.begins pieces marks marked.run.states sums
  ways-of one pieces list {sums = sums} marked =
      let run = marked.run in
      rw (← one rows run.pieces pieces run.act_list list) (record {
        chosen = choices_in run;
        ways = split_with_choices scope.begins run.loss run.pieces run.states sums run.way;
        are = marked.are;
      })

  -- with the choices that have its marks
  pub followed : OneActList scope → (pieces : List Piece) (chosen : Choices (acts_of pieces))
      → IsActList scope pieces rows → {marks : List (ℕ × Mark)} {sums : AllSums}
      → marks_of pieces chosen ≡ marks → (marked : MarkedRun scope rows marks sums)
      → AllFollow scope.begins (acts_of pieces) chosen marked.run.states sums
  followed one pieces chosen list have marked =
      let it = ways-of one pieces list marked in
      rw (marks_tell scope pieces it.chosen chosen list.in_order (it.are ∙ sym have)) at it.ways

-- an element of the others isn't the first, where marks rise
pub later_in : (first mark : ℕ × Mark) (others : List (ℕ × Mark)) → Rise (first ∷ others)
    → Contains others mark → first.0 < mark.0
later_in first mark others rise has =
    All-contains (λ later. first.0 < later.0) others mark rise.0 has

-- what is among marks that rise is the first, or one of the others, which stand after it
pub rise_cases : (first mark : ℕ × Mark) (others : List (ℕ × Mark)) → Rise (first ∷ others)
    → Contains (first ∷ others) mark
    → (first ≡ mark) ⊎ (Contains others mark × (first.0 < mark.0))
rise_cases first mark others rise has =
    grind (arith, contains-cases first others mark has, later_in first mark others rise)

-- the other elements are the same too
in_others : (one other : ℕ × Mark) (ones others : List (ℕ × Mark)) → Rise (one ∷ ones)
    → one ≡ other
    → ((mark : ℕ × Mark) → Contains (one ∷ ones) mark → Contains (other ∷ others) mark)
    → (mark : ℕ × Mark) → Contains ones mark → Contains others mark
in_others one other ones others rise first same mark has =
    grind (
      arith,
      contains-cases other others mark (same mark (contains-there one ones mark has)),
      later_in one mark ones rise has,
    )

-- lists of marks that rise are one by their elements
pub rising_one : (one other : List (ℕ × Mark)) → Rise one → Rise other
    → ((mark : ℕ × Mark) → Contains one mark ↔ Contains other mark) → one ≡ other
rising_one [] [] rise also same = refl
rising_one [] (other ∷ others) rise also same =
    absurd (contains-none other ((same other).1 (contains-here other others other refl)))
rising_one (one ∷ ones) [] rise also same =
    absurd (contains-none one ((same one).0 (contains-here one ones one refl)))
rising_one (one ∷ ones) (other ∷ others) rise also same =
    let first : one ≡ other = grind (
      arith,
      rise_cases other one others also ((same one).0 (contains-here one ones one refl)),
      rise_cases one other ones rise ((same other).1 (contains-here other others other refl)),
    ) in
    let rest = rising_one ones others rise.1 also.1 (λ mark. (
      in_others one other ones others rise first (λ m. (same m).0) mark,
      in_others other one others ones also (sym first) (λ m. (same m).1) mark,
    )) in
    λ i. first i ∷ rest i
