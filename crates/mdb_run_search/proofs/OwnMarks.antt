-- The marks of a run by devices: each is of one device.
use Rattle.mdb_run_search.proofs.Words.{is_one, itself, arith, refl, sym, ap, ◌∙◌, ◌≡◌, ◌↔◌, ◌⊎◌, inl, inr, ℕ, ◌+◌, ◌<◌, ◌≤◌, Bool, true, false, if◌then◌else◌, List, [], ◌∷◌, ◌++◌, get_or, length, length-append, All, Contains, All-contains, Contains-get_or, Contains-append_left, Event, device_of, same_device, Device, First, Second, Act, Scope, ArePieces, Piece, Whole, acts_of, events_of, has_part, Choice, Plain, Lost, Again, CanStand, IsActOf, Mark, Choices, Rise, marks_at, marks_of, own_marks, AgreeFor, merged, merged_agrees, contains-none, append-nil, Contains-append_cases, Contains-append_right, Bill, Changer, Reader}
use Rattle.mdb_bus.specs.declared.act.Act.TheVariants as kinds
use Rattle.mdb_run_search.proofs.MarkedRuns.{IsAt, IsBefore, all_before, at_row, rise-more}

-- what mdb_cash says of the acts that a device has a part in
abbrev pub PartsAreTold : Type 0
PartsAreTold = (device : Device) (act : Act) → (has_part device act ≡ true) ↔ IsActOf device act

-- the marks of a choice, where a device has a part in the act
abbrev kept_if : Bool → List (ℕ × Mark) → List (ℕ × Mark)
kept_if has here = if has then here else []

-- those of two choices are the same, where the choices are
kept_alike : (has : Bool) (row : ℕ) (one other : Choice) → (has ≡ true → one ≡ other)
    → kept_if has (marks_at row one) ≡ kept_if has (marks_at row other)
kept_alike true row one other same = ap (marks_at row) (same refl)
kept_alike false row one other same = refl

-- what is kept was there, and is of a device that has a part
kept_in : (has : Bool) (here : List (ℕ × Mark)) (mark : ℕ × Mark) → Contains (kept_if has here) mark
    → (has ≡ true) × Contains here mark
kept_in true here mark is = (refl, is)
kept_in false here mark is = absurd (contains-none mark is)

-- an act that has a mark is of one device
act_of_one : (act : Act) (choice : Choice) → CanStand act choice → (choice ≡ Plain)
    ⊎ ((of : Device) × ((device : Device) → has_part device act ≡ same_device device of))
act_of_one act Plain stands = inl refl
act_of_one (kinds.Ack command) Lost stands = inr (device_of command, λ device. refl)
act_of_one (kinds.VmcAck command reply) Lost stands = inr (device_of command, λ device. refl)
act_of_one (kinds.Reply command reply) choice stands = inr (device_of command, λ device. refl)
act_of_one act Again stands = absurd cc
act_of_one _ _ stands = absurd stands

-- how many marks the devices have together of these, each where it has them
abbrev pub together : (Device → List (ℕ × Mark)) → ℕ
together own =
    length (own Changer) + length (own Bill) + length (own (Reader First))
    + length (own (Reader Second))

-- no more, where none has more
pub together_most : (one other : Device → List (ℕ × Mark))
    → ((device : Device) → length (one device) ≤ length (other device))
    → together one ≤ together other
together_most one other most = omega arith

-- what is of one device is counted once
of_one : (device : Device) (here : List (ℕ × Mark))
    → length here ≡ together (λ other. kept_if (same_device other device) here)
of_one (Reader First) here = omega arith
of_one device here = omega arith

-- nothing is counted as nothing
kept_none : (has : Bool) → length (kept_if has []) ≡ 0
kept_none true = refl
kept_none false = refl

-- an act that has a mark is counted once
here_together : (act : Act) (choice : Choice) (row : ℕ) → CanStand act choice
    → length (marks_at row choice)
    ≡ together (λ device. kept_if (has_part device act) (marks_at row choice))
here_together act choice row stands = elim (act_of_one act choice stands) [
  | inl plain ↦ rw plain (omega (arith, kept_none))
  | inr (of, told) ↦ simp told (of_one of (marks_at row choice))
]

-- the marks of a run are as many as those of the devices together
pub all_together : (pieces : List Piece) (chosen : Choices (acts_of pieces))
    → length (marks_of pieces chosen) ≡ together (λ device. own_marks device pieces chosen)
all_together [] chosen = refl
all_together (Whole act events ∷ pieces) chosen =
    omega (
      arith,
      length-append {A = ℕ × Mark},
      all_together pieces chosen.before,
      here_together act chosen.choice (length (events_of pieces ++ events)) chosen.stands,
    )
all_together (tail ∷ pieces) chosen = all_together pieces chosen

-- each mark of a device is one of the run
pub own_in : (device : Device) (pieces : List Piece) (chosen : Choices (acts_of pieces))
    (mark : ℕ × Mark) → Contains (own_marks device pieces chosen) mark
    → Contains (marks_of pieces chosen) mark
own_in device [] chosen mark is = is
own_in device (Whole act events ∷ pieces) chosen mark is =
    let before = marks_of pieces chosen.before in
    let here : List (ℕ × Mark) = marks_at (length (events_of pieces ++ events)) chosen.choice in
    grind (
      arith,
      Contains-append_cases (own_marks device pieces chosen.before) _ mark is,
      own_in device pieces chosen.before mark,
      kept_in (has_part device act) here mark,
      Contains-append_left before here mark,
      Contains-append_right before here mark,
    )
own_in device (tail ∷ pieces) chosen mark is = own_in device pieces chosen mark is

-- the marks of a device, too, stand before the row of one that comes after them
own_before : (device : Device) (scope : Scope) (act : Act) (events : List Event)
    (pieces : List Piece) (chosen : Choices (acts_of pieces))
    → ArePieces scope (Whole act events ∷ pieces)
    → All (IsBefore (length (events_of pieces ++ events))) (own_marks device pieces chosen)
own_before device scope act events pieces chosen are k d inside =
    let own = own_marks device pieces chosen in
    All-contains (IsBefore (length (events_of pieces ++ events))) (marks_of pieces chosen)
    (get_or own k d) (all_before scope act events pieces chosen are)
    (own_in device pieces chosen (get_or own k d) (Contains-get_or own k d inside))

-- a mark of a device is of those before, or at the row of the last act, in which it has a part
own_cases : (scope : Scope) (act : Act) (events : List Event) (pieces : List Piece)
    (chosen : Choices (act ∷ acts_of pieces)) → ArePieces scope (Whole act events ∷ pieces)
    → (device : Device) (mark : ℕ × Mark)
    → Contains (own_marks device (Whole act events ∷ pieces) chosen) mark
    → (Contains (own_marks device pieces chosen.before) mark
    × (mark.0 < length (events_of pieces ++ events)))
    ⊎ ((has_part device act ≡ true)
    × Contains (marks_at (length (events_of pieces ++ events)) chosen.choice) mark
    × (mark.0 ≡ length (events_of pieces ++ events)))
own_cases scope act events pieces chosen are device mark has =
    let row : ℕ = length (events_of pieces ++ events) in
    let here : List (ℕ × Mark) = marks_at row chosen.choice in
    let own = own_marks device pieces chosen.before in
    elim (Contains-append_cases own (kept_if (has_part device act) here) mark has) [
      | inl before ↦ inl (
        before,
        All-contains (IsBefore row) own mark
            (own_before device scope act events pieces chosen.before are) before,
      )
      | inr last ↦
          let is = kept_in (has_part device act) here mark last in
          inr (is.0, is.1, All-contains (IsAt row) here mark (at_row row chosen.choice) is.1)
    ]

-- marks that rise do so with those of a row after them, where the device has a part in the act
rise_kept : (has : Bool) (row : ℕ) (choice : Choice) (so_far : List (ℕ × Mark)) → Rise so_far
    → All (IsBefore row) so_far → Rise (so_far ++ kept_if has (marks_at row choice))
rise_kept true row choice so_far rise before = rise-more row choice so_far rise before
rise_kept false row choice so_far rise before = rw append-nil rise

-- so the marks of a device rise
pub own_rise : (scope : Scope) (device : Device) (pieces : List Piece)
    (chosen : Choices (acts_of pieces)) → ArePieces scope pieces
    → Rise (own_marks device pieces chosen)
own_rise scope device [] chosen are = tt
own_rise scope device (Whole act events ∷ pieces) chosen are =
    rise_kept (has_part device act) _ chosen.choice (own_marks device pieces chosen.before)
    (own_rise scope device pieces chosen.before are.2)
    (own_before device scope act events pieces chosen.before are)
own_rise scope device (tail ∷ pieces) chosen are = own_rise scope device pieces chosen are.2

module _ (told : PartsAreTold) where
  -- choices that are the same for a device have the same marks of it
  own_alike : (device : Device) (pieces : List Piece) (one other : Choices (acts_of pieces))
      → AgreeFor device (acts_of pieces) one other
      → own_marks device pieces one ≡ own_marks device pieces other
  own_alike device [] one other same = refl
  own_alike device (Whole act events ∷ pieces) one other same =
      let before = own_alike device pieces one.before other.before same.1 in
      let here = kept_alike (has_part device act) (length (events_of pieces ++ events)) one.choice
      other.choice (λ has. same.0 ((told device act).0 has)) in
      λ i. before i ++ here i
  own_alike device (tail ∷ pieces) one other same = own_alike device pieces one other same

  -- choices of each device, as one list, have of each device the marks of its own
  pub own_of_merged : (device : Device) (pieces : List Piece)
      (all : Device → Choices (acts_of pieces))
      → own_marks device pieces (merged (acts_of pieces) all)
      ≡ own_marks device pieces (all device)
  own_of_merged device pieces all =
      sym (own_alike device pieces (all device) (merged (acts_of pieces) all)
      (merged_agrees (acts_of pieces) all device))

-- a mark of an act is of the device that has a part in it
kept_of : (act : Act) (choice : Choice) (row : ℕ) → CanStand act choice → (mark : ℕ × Mark)
    → Contains (marks_at row choice) mark
    → (device : Device) × Contains (kept_if (has_part device act) (marks_at row choice)) mark
kept_of act choice row stands mark is = elim (act_of_one act choice stands) [
  | inl plain ↦ absurd (contains-none mark (rw plain at is))
  | inr (of, told) ↦ (of, rw (told of, itself of) is)
]

-- each mark of a run is of some device
pub in_own : (pieces : List Piece) (chosen : Choices (acts_of pieces)) (mark : ℕ × Mark)
    → Contains (marks_of pieces chosen) mark
    → (device : Device) × Contains (own_marks device pieces chosen) mark
in_own [] chosen mark is = absurd (contains-none mark is)
in_own (Whole act events ∷ pieces) chosen mark is =
    elim (Contains-append_cases (marks_of pieces chosen.before) _ mark is) [
      | inl earlier ↦
          let found = in_own pieces chosen.before mark earlier in
          (found.0, Contains-append_left (own_marks found.0 pieces chosen.before) _ mark found.1)
      | inr last ↦
          let found = kept_of act chosen.choice _ chosen.stands mark last in
          (found.0, Contains-append_right (own_marks found.0 pieces chosen.before) _ mark found.1)
    ]
in_own (tail ∷ pieces) chosen mark is = in_own pieces chosen mark is

-- an act that has a mark is of no two devices
part_of_one : (act : Act) (choice : Choice) (row : ℕ) → CanStand act choice → (one other : Device)
    (mark : ℕ × Mark) → Contains (marks_at row choice) mark → has_part one act ≡ true
    → has_part other act ≡ true → one ≡ other
part_of_one act choice row stands one other mark is has also =
    elim (act_of_one act choice stands) [
      | inl plain ↦ absurd (contains-none mark (rw plain at is))
      | inr (of, told) ↦ is_one one of (sym (told one) ∙ has)
          ∙ sym (is_one other of (sym (told other) ∙ also))
    ]

-- no two devices have a mark at one row
pub own_apart : (scope : Scope) (pieces : List Piece) (chosen : Choices (acts_of pieces))
    → ArePieces scope pieces → (one other : Device) (mark next : ℕ × Mark)
    → Contains (own_marks one pieces chosen) mark → Contains (own_marks other pieces chosen) next
    → mark.0 ≡ next.0 → one ≡ other
own_apart scope [] chosen are one other mark next has also same = absurd (contains-none mark has)
own_apart scope (Whole act events ∷ pieces) chosen are one other mark next has also same =
    grind (
      arith,
      own_cases scope act events pieces chosen are one mark has,
      own_cases scope act events pieces chosen are other next also,
      own_apart scope pieces chosen.before are.2 one other mark next,
      part_of_one act chosen.choice (length (events_of pieces ++ events)) chosen.stands one other
          mark,
    )
own_apart scope (tail ∷ pieces) chosen are one other mark next has also same =
    own_apart scope pieces chosen are.2 one other mark next has also same
