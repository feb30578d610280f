-- The lines of `show`, as a row adds to them.
use Rattle.mdb_show.proofs.Words.{Act, ArePieces, Err, Event, Grown, IsTail, LineForm, List, MayStand, None, Ok, OnOk, Piece, Result, Scope, Some, Whole, [], ap, append-nil, append_assoc, arith, bytes_text, closed_pieces, cut_text, digit_glyph, ended_text, events_of, get_or, if◌then◌else◌, inl, inr, is_ok, length, length-append, lines_of, piece_events, piece_line, refl, subst, sym, take, take_more, true, ℕ, ◌%◌, ◌++◌, ◌+◌, ◌/◌, ◌<◌, ◌∙◌, ◌∷◌, ◌≡◌, ◌⊎◌}
use Rattle.std.proofs.lemmas.Bool.Decides.{nat_tests}
use Rattle.mdb_bus.specs.declared.act.Act.TheVariants as acts
use Rattle.mdb_bus.proofs.Breaks.{IsBreak, break_said, closed_tail, is_tail, on_closed, whole_of}

-- one byte more
bytes_push : (bytes : List ℕ) (byte : ℕ)
    → bytes_text (bytes ++ byte ∷ [])
    ≡ bytes_text bytes ++ 32 ∷ digit_glyph true (byte / 16) ∷ digit_glyph true (byte % 16) ∷ []
bytes_push [] byte = refl
bytes_push (b ∷ bytes) byte =
    ap (λ l. 32 ∷ digit_glyph true (b / 16) ∷ digit_glyph true (b % 16) ∷ l) (bytes_push bytes byte)

pub bytes_more : (now front bytes : List ℕ) (i : ℕ) → i < length bytes
    → (high low : ℕ) (new : List ℕ) → now ≡ front ++ bytes_text (take i bytes)
    → high ≡ digit_glyph true (get_or bytes i 0 / 16)
    → low ≡ digit_glyph true (get_or bytes i 0 % 16) → new ≡ now ++ 32 ∷ high ∷ low ∷ []
    → new ≡ front ++ bytes_text (take (i + 1) bytes)
bytes_more now front bytes i below high low new so_far first second added =
    rw (
      added,
      so_far,
      first,
      second,
      take_more bytes i 0 below,
      bytes_push (take i bytes) (get_or bytes i 0),
    ) (append_assoc front _ _)

-- what was appended after others, where memory was had for it
pub had_more : {T E : Type 0} (answer : Result T E) (new between old first more text : List ℕ)
    → new ≡ (if is_ok answer then between ++ more else between) → between ≡ old ++ first
    → text ≡ first ++ more → OnOk answer (new ≡ old ++ text)
had_more (Ok done) new between old first more text is before same =
    rw (is, before, same) (append_assoc old first more)
had_more (Err e) new between old first more text is before same = tt

-- a row that ends no act leaves the closed pieces as they were
pub goes_on_closed : (scope : Scope) (pieces longer : List Piece) (row : Event)
    → Grown pieces row None longer → ArePieces scope longer
    → closed_pieces longer ≡ closed_pieces pieces
goes_on_closed scope pieces longer row grown order =
    let after : closed_pieces longer ≡ grown.earlier = rw grown.are
    (closed_tail grown.newest grown.earlier (is_tail grown.newest grown.ends)) in
    let ordered : ArePieces scope (grown.newest ∷ grown.earlier) = rw grown.are at order in
    elim grown.from [
      | inl new ↦ after ∙ (sym (on_closed scope grown.earlier grown.newest ordered.1
          (λ is. rw grown.ends at is)) ∙ ap closed_pieces (sym new.1))
      | inr old ↦ after ∙ sym (ap closed_pieces old.3 ∙ closed_tail old.0 grown.earlier old.1)
    ]

-- lines of rows in all
cut_none : (form : LineForm) (n m : ℕ) → n ≡ m → cut_text form n m ≡ []
cut_none form n m same = grind (arith, nat_tests)

cut_some : (form : LineForm) (n m : ℕ) → n < m → cut_text form n m ≡ form.cut (n + 1) m
cut_some form n m below = grind (arith, nat_tests)

tail_said : (form : LineForm) (piece : Piece) (n : ℕ) → IsTail piece
    → piece_line form n piece ≡ form.cut (n + 1) (n + length (piece_events piece))
tail_said form (Whole act events) n is = absurd is
tail_said form piece n is = refl

-- a tail has rows
some_events : (scope : Scope) (pieces : List Piece) (piece : Piece) → MayStand scope pieces piece
    → 0 < length (piece_events piece)
some_events scope pieces piece stands =
    let begins : piece_events piece ≡ stands.first ∷ stands.others = stands.begins in
    omega (arith, ap length begins)

with_tail : (form : LineForm) (scope : Scope) (piece : Piece) (pieces : List Piece) → IsTail piece
    → MayStand scope pieces piece
    → lines_of form (piece ∷ pieces)
    ≡ lines_of form pieces
    ++ cut_text form (length (events_of pieces)) (length (events_of (piece ∷ pieces)))
with_tail form scope piece pieces is stands =
    let n : ℕ = length (events_of pieces) in
    let cut = cut_some form n (n + length (piece_events piece))
    (omega (arith, some_events scope pieces piece stands)) in
    rw (length-append (events_of pieces) (piece_events piece), tail_said form piece n is)
    (ap (λ l. lines_of form pieces ++ l) (sym cut))

-- the lines of all pieces are those of the closed ones, and that of a tail
pub all_shown : (form : LineForm) (scope : Scope) (pieces : List Piece) → ArePieces scope pieces
    → lines_of form pieces
    ≡ lines_of form (closed_pieces pieces)
    ++ cut_text form (length (events_of (closed_pieces pieces))) (length (events_of pieces))
all_shown form scope [] order = rw (cut_none form 0 0 refl)
all_shown form scope (Whole act events ∷ pieces) order =
    let n : ℕ = length (events_of (Whole act events ∷ pieces)) in
    sym (append-nil (lines_of form (Whole act events ∷ pieces)))
    ∙ ap (λ l. lines_of form (Whole act events ∷ pieces) ++ l) (sym (cut_none form n n refl))
all_shown form scope (tail ∷ pieces) order = with_tail form scope tail pieces tt order.1

-- an act is a break or not
break_or_not : (act : Act) → IsBreak (Some act) ⊎ (IsBreak (Some act) → ⊥)
break_or_not (acts.Break length) = inl tt
break_or_not act = inr (λ is. is)

ended_break : (form : LineForm) (shown rows : ℕ) (act : Act) → IsBreak (Some act)
    → ended_text form shown rows act
    ≡ cut_text form shown rows ++ form.act (rows + 1) (rows + 1) act
ended_break form shown rows (acts.Break length) is = refl
ended_break form shown rows act is = absurd is

ended_other : (form : LineForm) (shown rows : ℕ) (act : Act) → (IsBreak (Some act) → ⊥)
    → ended_text form shown rows act ≡ form.act (shown + 1) (rows + 1) act
ended_other form shown rows (acts.Break length) not = absurd (not tt)
ended_other form shown rows act not = refl

-- A row that ends an act adds the lines of that act.
module _ (form : LineForm) (scope : Scope) (pieces longer : List Piece) (row : Event) (act : Act)
    (shown rows : ℕ) (grown : Grown pieces row (Some act) longer)
    (before : ArePieces scope pieces) (order : ArePieces scope longer)
    (closed : length (events_of (closed_pieces pieces)) ≡ shown)
    (counted : length (events_of pieces) ≡ rows) where
  abbrev events : List Event
  events = piece_events grown.newest

  are : longer ≡ Whole act events ∷ grown.earlier
  are = grown.are ∙ ap (λ piece. piece ∷ grown.earlier) (whole_of grown.newest act grown.ends)

  ordered : ArePieces scope (Whole act events ∷ grown.earlier)
  ordered = subst (ArePieces scope) are order

  long : length events ≡ length grown.begun + 1
  long = ap length grown.events ∙ length-append grown.begun (row ∷ [])

  lines : (n last : ℕ) → length (events_of grown.earlier) ≡ n → n + length events ≡ last
      → lines_of form longer ≡ lines_of form grown.earlier ++ form.act (n + 1) last act
  lines n last first end =
      ap (lines_of form) are
      ∙ (ap (λ k. lines_of form grown.earlier ++ form.act (k + 1) (k + length events) act) first
      ∙ ap (λ k. lines_of form grown.earlier ++ form.act (n + 1) k act) end)

  -- an act that is no break, whose rows come after those that are shown
  of_other : grown.earlier ≡ closed_pieces pieces → shown + length events ≡ rows + 1
      → (IsBreak (Some act) → ⊥)
      → lines_of form longer
      ≡ lines_of form (closed_pieces pieces) ++ ended_text form shown rows act
  of_other earlier last not =
      rw (
        lines shown (rows + 1) (rw earlier closed) last,
        earlier,
        ended_other form shown rows act not,
      )

  -- the act is a piece of this row alone
  alone : grown.begun ≡ [] → pieces ≡ grown.earlier → IsBreak (Some act) ⊎ (IsBreak (Some act) → ⊥)
      → lines_of form longer
      ≡ lines_of form (closed_pieces pieces) ++ ended_text form shown rows act
  alone none same (inl is) =
      let here : length (events_of grown.earlier) ≡ rows = rw (sym same) counted in
      let last : rows + length events ≡ rows + 1 = omega (arith, long, ap length none) in
      rw (
        lines rows (rows + 1) here last,
        sym same,
        all_shown form scope pieces before,
        closed,
        counted,
        ended_break form shown rows act is,
      ) (append_assoc _ (cut_text form shown rows) _)
  alone none same (inr not) =
      let shut : closed_pieces pieces ≡ pieces = ap closed_pieces same
      ∙ (on_closed scope grown.earlier (Whole act events) ordered.1 not ∙ sym same) in
      let both : shown ≡ rows = sym closed ∙ (ap (λ l. length (events_of l)) shut ∙ counted) in
      of_other (sym same ∙ sym shut) (omega (arith, long, ap length none, both)) not

  -- the act is what a tail has become
  of_tail : (tail : Piece) → IsTail tail → piece_events tail ≡ grown.begun
      → pieces ≡ tail ∷ grown.earlier → IsBreak (Some act) ⊎ (IsBreak (Some act) → ⊥)
      → lines_of form longer
      ≡ lines_of form (closed_pieces pieces) ++ ended_text form shown rows act
  of_tail tail is said same (inl broken) =
      let some = some_events scope grown.earlier tail (subst (ArePieces scope) same before).1 in
      let short = break_said scope act events broken ordered.0.said in
      absurd (omega (arith, short, long, ap length said, some))
  of_tail tail is said same (inr not) =
      let earlier : grown.earlier ≡ closed_pieces pieces =
      sym (ap closed_pieces same ∙ closed_tail tail grown.earlier is) in
      let here : length (events_of grown.earlier) ≡ shown = rw earlier closed in
      let all : length (events_of grown.earlier ++ piece_events tail) ≡ rows =
      ap (λ l. length (events_of l)) (sym same) ∙ counted in
      let split = length-append (events_of grown.earlier) (piece_events tail) in
      of_other earlier (omega (arith, long, ap length said, all, split, here)) not

  pub ends_act : (closed_pieces longer ≡ longer)
      × (lines_of form longer
      ≡ lines_of form (closed_pieces pieces) ++ ended_text form shown rows act)
  ends_act = (
    ap closed_pieces are ∙ sym are,
    elim grown.from [
      | inl new ↦ alone new.0 new.1 (break_or_not act)
      | inr old ↦ of_tail old.0 old.1 old.2 old.3 (break_or_not act)
    ],
  )
