-- Haste, and the rows out of their time, after one row more.
use Rattle.std.specs.Prelude.{nat_lt}
use Rattle.std.proofs.Math.Nat.{add-zero, add_assoc}
use Rattle.std.proofs.lemmas.Bool.{le-ltb}
use Rattle.mdb_bus.proofs.Words.{[], Act, ap, ArePieces, arith, asked_device, AskTail, Asked, awaited_after, awaited_at, awaited_from, Base, Blame, block_most, Bool, Break, Controller, controller_words, Device, Event, events_of, false, far_apart, Grown, haste_after, haste_from, if◌then◌else◌, InAsk, InForeign, inl, inr, Levels, is_past, is_untimely, IsSaid, IsTail, last_of, Leads, left_by, Line, List, lt-ltb, None, Option, Peripheral, Piece, piece_events, pieces_after, Position, position_after, position_of, refl, RepeatTail, ReplyTail, Returned, Say, Scope, sender_by, Situation, situation_of, Some, Step, subst, sym, true, untimely_of, untimely_sender, with_rows, with_sender, with_untimely, Word, ℕ, ◌++◌, ◌+◌, ◌<◌, ◌∙◌, ◌∷◌, ◌≡◌, ◌≢◌}
use Rattle.mdb_bus.specs.declared.untimely.Untimely.{Untimely}
use Rattle.mdb_bus.specs.inner.Gone.{KeepsAwaited}
use Rattle.mdb_bus.specs.declared.fault.Blame.TheVariants as blame
use Rattle.mdb_bus.specs.shared.Step as step
use Rattle.mdb_bus.proofs.Sound.{rest_last}
use Rattle.mdb_bus.proofs.Lists.{heard}
use Rattle.mdb_bus.proofs.Forward.{no_effect}

-- who says a word says the first word of its side
sender_of : (line : Line) (at word : ℕ) (words : List ℕ) (first : Event) (others : List Event)
    (asked : Option Device) → Say line words (first ∷ others)
    → sender_by asked (Word at line word) ≡ sender_by asked first
sender_of line at word [] first others asked says = cc
sender_of Controller at word (said ∷ words) first others asked says =
    let is = heard first Controller said (cc) in rw is.1
sender_of Peripheral at word (said ∷ words) first others asked says =
    let is = heard first Peripheral said (cc) in rw is.1

-- where a word goes on with a block: it is one of the block's side, and begins none
abbrev pub GoesOnWith : Piece → Event → Type 0
GoesOnWith (AskTail bytes events) (Word at Controller word) = word < 256
GoesOnWith (ReplyTail command bytes events) (Word at Peripheral word) = Unit {0}
GoesOnWith (RepeatTail command reply words events) (Word at Peripheral word) = Unit {0}
GoesOnWith piece row = ⊥

-- what is awaited after rows and one more
pub awaited_on : (before : Bool) (rows : List Event) (row : Event)
    → awaited_from before (rows ++ row ∷ []) ≡ awaited_after row (awaited_from before rows)
awaited_on before [] row = refl
awaited_on before (first ∷ rows) row = awaited_on (awaited_after first before) rows row

-- and haste
haste_more : (awaited : Bool) (from : Option Event) (before : Bool) (first : Event)
    (rows : List Event) (row : Event) → haste_from awaited from before (first ∷ rows ++ row ∷ [])
    ≡ haste_after (awaited_from awaited (first ∷ rows)) (last_of (first ∷ rows)) row
    (haste_from awaited from before (first ∷ rows))
haste_more awaited from before first [] row = refl
haste_more awaited from before first (next ∷ rows) row =
    haste_more (awaited_after first awaited) (Some first) (haste_after awaited from first before)
    next rows row

pub haste_on : (rows : List Event) (row : Event) → haste_from false None false (rows ++ row ∷ [])
    ≡ haste_after (awaited_from false rows) (last_of rows) row (haste_from false None false rows)
haste_on [] row = refl
haste_on (first ∷ rows) row = haste_more false None false first rows row

-- a marked word of the controller begins a block, to which an answer is awaited
marked : (word byte : ℕ) (before : Bool) → word ≡ 256 + byte
    → (if nat_lt word 256 then before else true) ≡ true
marked word byte before is =
    ap (λ b. if b then before else true) (le-ltb word 256 (omega (arith, is)))

-- if it isn't early it leaves no haste, and no other word does
not_early : (low : Bool) {early : Bool} → early ≡ false → (if low then false else early) ≡ false
not_early true is = refl
not_early false is = is

unmarked : (word : ℕ) (before new : Bool) → word < 256
    → (if nat_lt word 256 then before else new) ≡ before
unmarked word before new low = ap (λ b. if b then before else new) (lt-ltb word 256 low)

module _ (scope : Scope) (from : Option Event) (levels : Levels) where
  abbrev At : Position → Situation
  At position = record { scope = scope; position = position; last = from; levels = levels }

  module _ (was kept : Bool) where
    -- whether an answer is awaited after a row: where it leads says it, or what is kept
    pub awaited_by_step : (position : Position) (row : Event) (next : Step)
        → Leads (At position) row next
        → KeepsAwaited next (awaited_after row (awaited_at position was)) kept
        → awaited_after row (awaited_at position was)
        ≡ awaited_at (position_after position next) kept
    awaited_by_step (InAsk bytes) row step.Foreign leads keeps = sym keeps
    awaited_by_step position row step.Foreign leads keeps = sym keeps
    awaited_by_step position (Break at length) (step.Break lasted) leads keeps = refl
    awaited_by_step position (Break at length) next leads keeps = absurd leads
    awaited_by_step InForeign (Word at Controller word) next (inl leads) keeps = search (marked)
    awaited_by_step InForeign (Word at Controller word) next (inr leads) keeps = search
    awaited_by_step (InAsk bytes) (Word at Controller word) next leads keeps = search (unmarked)
    awaited_by_step position (Word at Controller word) next leads keeps = search (marked)
    awaited_by_step (InAsk bytes) (Word at Peripheral word) next leads keeps = absurd leads
    awaited_by_step position (Word at Peripheral word) next leads keeps = search

  -- a row in its time leaves no haste where there is none, and where no foreign answer is awaited
  pub none_in_time : (position : Position) (row : Event) (next : Step)
      → is_untimely position from row ≡ false → Leads (At position) row next
      → haste_after (awaited_at position false) from row false ≡ false
  none_in_time (InAsk bytes) (Word at Controller word) step.Foreign timely leads =
      unmarked word _ _ leads.0
  none_in_time (InAsk bytes) (Word at Controller word) next timely leads = search (unmarked)
  none_in_time (Asked command) (Word at Controller word) next timely leads =
      not_early (nat_lt word 256) timely
  none_in_time (Returned command reply) (Word at Controller word) next timely leads =
      not_early (nat_lt word 256) timely
  none_in_time position (Word at Controller word) next timely leads =
      not_early (nat_lt word 256) refl
  none_in_time position row next timely leads = refl

-- rows of a sender add up
adds_up : (more some : ℕ) (sender : Blame) (counts : Untimely)
    → with_untimely (some + more) sender counts
    ≡ with_untimely more sender (with_untimely some sender counts)
adds_up more some blame.Other counts = refl
adds_up more some sender counts = rw (← add_assoc)

-- no row adds nothing
adds_none : (sender : Blame) (counts : Untimely) → with_untimely 0 sender counts ≡ counts
adds_none blame.Other counts = refl
adds_none sender counts = rw add-zero

-- one row more, if it is out of its time
adds_one : (is : Bool) (sender : Blame) (counts : Untimely)
    → with_untimely (if is then 1 else 0) sender counts
    ≡ with_sender (if is then Some sender else None) counts
adds_one true sender counts = refl
adds_one false sender counts = adds_none sender counts

-- rows with one word more, if it is out of its time
more_words : (late : Bool) (some few many : ℕ) (sender : Blame) (counts : Untimely)
    → many ≡ few + (if late then 1 else 0) → with_untimely (some + many) sender counts
    ≡ with_sender (if late then Some sender else None) (with_untimely (some + few) sender counts)
more_words late some few many sender counts is =
    let sums : some + many ≡ (some + few) + (if late then 1 else 0) = omega (arith, is) in
    rw sums (adds_up (if late then 1 else 0) (some + few) sender counts ∙ adds_one late sender _)

-- the words of a block with one more
far_more : (events : List Event) (row : Event) → events ≢ [] → far_apart (events ++ row ∷ [])
    ≡ far_apart events + (if is_past (block_most Base) (last_of events) row then 1 else 0)
far_more [] row some = absurd (some refl)
far_more (event ∷ []) row some = omega arith
far_more (event ∷ next ∷ events) row some =
    let rest = far_more (next ∷ events) row (λ none. cc) in omega (arith, rest)

-- a word that goes on with a block comes late where it comes too far after the word before it
late_inside : (tail : Piece) (from : Option Event) (row : Event) → GoesOnWith tail row
    → is_untimely (left_by tail) from row ≡ is_past (block_most Base) from row
late_inside (AskTail bytes events) from (Word at Controller word) goes = refl
late_inside tail from (Word at Peripheral word) goes = search
late_inside tail from row goes = search

module _ (scope : Scope) where
  abbrev Last : List Piece → Option Event
  Last pieces = last_of (events_of pieces)

  -- what a word goes on with, where it leads on
  goes_on : (tail : Piece) (earlier : List Piece) (at : ℕ) (line : Line) (word : ℕ) (next : Step)
      → IsTail tail → Leads (situation_of scope (tail ∷ earlier)) (Word at line word) next
      → GoesOnWith tail (Word at line word)
  goes_on (AskTail bytes events) earlier at Controller word (step.AskByte byte) open_end leads =
      leads.1
  goes_on tail earlier at Controller word next open_end leads = search
  goes_on tail earlier at line word next open_end leads = search

  -- who sent the first word of a tail sent the word that goes on with it
  same_sender : (tail : Piece) (row first : Event) (others : List Event) (asked : Option Device)
      → IsSaid scope tail → piece_events tail ≡ first ∷ others → GoesOnWith tail row
      → sender_by asked row ≡ sender_by asked first
  same_sender (AskTail bytes events) (Word at Controller word) first others asked said is goes =
      sender_of Controller at word (controller_words bytes) first others asked (rw is at said.1)
  same_sender (ReplyTail command bytes events) (Word at Peripheral word) first others asked said is
      goes = sender_of Peripheral at word bytes first others asked (rw is at said.1)
  same_sender (RepeatTail command reply words events) (Word at Peripheral word) first others asked
      said is goes = sender_of Peripheral at word words first others asked (rw is at said.1)
  same_sender tail row first others asked said is goes = absurd goes

  -- the rows out of their time, by those of the newest piece, and after one row more
  abbrev By : List Piece → List Event → Untimely
  By earlier events =
      with_rows (position_of scope earlier) (Last earlier) (asked_device earlier) events
      (untimely_of scope earlier)

  abbrev After : Event → List Piece → Untimely
  After row pieces = with_sender (untimely_sender scope pieces row) (untimely_of scope pieces)

  -- a tail with a row more
  more_rows : (tail : Piece) (earlier : List Piece) (row : Event) → ArePieces scope (tail ∷ earlier)
      → IsTail tail → GoesOnWith tail row
      → By earlier (piece_events tail ++ row ∷ []) ≡ After row (tail ∷ earlier)
  more_rows tail earlier row are open_end goes =
      let first = are.1.first in
      let others = are.1.others in
      let asked = asked_device earlier in
      rw (
        are.1.begins,
        rest_last,
        late_inside tail (last_of (first ∷ others)) row goes,
        (no_effect scope tail earlier open_end).2,
        same_sender tail row first others asked are.0.said are.1.begins goes,
      ) (more_words (is_past (block_most Base) (last_of (first ∷ others)) row)
      (if is_untimely (position_of scope earlier) (Last earlier) first then 1 else 0)
      (far_apart (first ∷ others)) (far_apart ((first ∷ others) ++ row ∷ []))
      (sender_by asked first) (untimely_of scope earlier)
      (far_more (first ∷ others) row (λ none. cc)))

  -- a row alone
  one_row : (pieces : List Piece) (row : Event) → By pieces (row ∷ []) ≡ After row pieces
  one_row pieces row =
      rw add-zero (adds_one (is_untimely (position_of scope pieces) (Last pieces) row)
      (sender_by (asked_device pieces) row) (untimely_of scope pieces))

  -- the rows out of their time after one row more
  pub untimely_by_step : (pieces : List Piece) (row : Event) (next : Step) (act : Option Act)
      → ArePieces scope pieces → Leads (situation_of scope pieces) row next
      → Grown pieces row act (pieces_after scope pieces row next)
      → untimely_of scope (pieces_after scope pieces row next) ≡ After row pieces
  untimely_by_step pieces (Break at length) (step.Break lasted) act are leads g =
      one_row pieces (Break at length)
  untimely_by_step pieces (Break at length) next act are leads g = absurd leads
  untimely_by_step pieces (Word at line word) next act are leads g =
      ap (untimely_of scope) g.are ∙ ap (By g.earlier) g.events ∙ (elim g.from [
        | inl (none, same) ↦ rw none (subst (λ ps. By ps (Word at line word ∷ [])
            ≡ After (Word at line word) pieces) same (one_row pieces (Word at line word)))
        | inr (tail, open_end, is, same) ↦
            let goes = goes_on tail g.earlier at line word next open_end
            (subst (λ ps. Leads (situation_of scope ps) (Word at line word) next) same leads) in
            rw (← is) (more_rows tail g.earlier (Word at line word)
            (subst (ArePieces scope) same are) open_end goes)
            ∙ ap (After (Word at line word)) (sym same)
      ])
