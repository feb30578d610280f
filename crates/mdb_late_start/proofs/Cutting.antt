-- The end of a transcript has an act list of its own, as a recording that begins in mid-session:
-- the pieces that begin in it stand there as they stood, and what is left of the others stands as
-- foreign words.
use Rattle.mdb_late_start.proofs.Words.{MayBeReadAlone, ap, refl, sym, ◌∙◌, ◌≡◌, ◌≢◌, ◌++◌, ◌⊎◌, arith, inl, inr, List, [], ◌∷◌, All, Option, Some, None, append_assoc, ℕ, append-nil, AllByRecursion, All-from_recursion, Event, Word, Break, Controller, Setups, Joined, Scope, IsBlockWord, IsForeignWord, with_foreign, levels_before, no_levels, profile_of, BeginAnew, IsBreakEvent, SplitsAt, joined_with, IsNothingOr, last_push, foreign_rows, AreForeignWords, word_waits, rest_after, Profile, Piece, Whole, Position, InAsk, InForeign, ArePieces, AreSpaced, BlockMayCome, IsActList, MayCome, NotBefore, PieceFits, events_of, last_of, levels_of, piece_events, position_of, NotPast}
use Rattle.mdb_bus.specs.declared.act.Act.TheVariants as acts
use Rattle.mdb_late_start.proofs.CutWords.{Kind, foreign_both, foreign_end, kind, said_stays}

-- A list of two parts is divided at another place: in the first part, or after an element of the
-- second.
abbrev IsDivided : {X : Type 0} → List X → List X → List X → List X → Type 0
IsDivided {X = X} xs ys front end =
    ((middle : List X) × (xs ≡ front ++ middle) × (end ≡ middle ++ ys))
    ⊎ ((x : X) × (middle : List X) × (ys ≡ x ∷ middle ++ end))

-- a list that is put together in two ways is divided so
divide : {X : Type 0} (xs ys front end : List X) → xs ++ ys ≡ front ++ end
    → IsDivided xs ys front end
divide [] ys [] end is = inl ([], refl, sym is)
divide [] ys (y ∷ front) end is = inr (y, front, is)
divide (x ∷ xs) ys [] end is = inl (x ∷ xs, refl, sym is)
divide (x ∷ xs) ys (y ∷ front) end is = elim (divide xs ys front end (cc)) [
  | inl (middle, before, after) ↦ inl (middle, cc, after)
  | inr inside ↦ inr inside
]

-- what is the same is none or the same
pub none_or_same : {X : Type 0} (here : Option X) → IsNothingOr here here
none_or_same None = tt
none_or_same (Some x) = refl

-- the last row of an end is none, or that of the whole
last_in_end : (front end : List Event) → IsNothingOr (last_of end) (last_of (front ++ end))
last_in_end [] end = none_or_same (last_of end)
last_in_end (x ∷ []) [] = tt
last_in_end (x ∷ []) (e ∷ end) = none_or_same (last_of (e ∷ end))
last_in_end (x ∷ y ∷ front) end = last_in_end (y ∷ front) end

-- where no row stands before it, a block that may come may come all the more
block_first : (profile : Profile) (position : Position) (from : Option Event) (to : Event)
    → BlockMayCome profile position from to → BlockMayCome profile position None to
block_first profile (InAsk bytes) from to comes = comes
block_first profile position from to comes = search

-- a word in time is in time where none stands before it
none_late : (most : Option ℕ) (to : Event) → NotPast most None to
none_late None to = tt
none_late (Some most) to = tt

-- and so may each piece
comes_first : (profile : Profile) (piece : Piece) (position : Position) (from : Option Event)
    (to : Event) → MayCome profile piece position from to → MayCome profile piece position None to
comes_first profile (Whole acts.Foreign events) position from to (inl opens) =
    inl (opens.0, block_first profile position from to opens.1)
comes_first profile (Whole acts.Foreign events) position from to (inr further) =
    inr (further.0, further.1, tt)
comes_first profile piece position from to comes = search (arith, block_first, none_late)

-- so it may come after no row, or the same
comes_after : (profile : Profile) (piece : Piece) (position : Position) (here there : Option Event)
    (to : Event) → IsNothingOr here there → MayCome profile piece position there to
    → MayCome profile piece position here to
comes_after profile piece position None there to less comes =
    comes_first profile piece position there to comes
comes_after profile piece position (Some here) there to less comes = rw less at comes

-- and a word in time is in time after no row, or the same
late_after : (here there : Option Event) (to : Event) → IsNothingOr here there
    → NotBefore (rest_after there) there to → NotBefore (rest_after here) here to
late_after None there to less late = tt
late_after (Some here) there to less late = rw less at late

-- each row rests after the one before it
abbrev AreLate : Option Event → List Event → Type 0
AreLate from [] = Unit {0}
AreLate from (event ∷ events) = NotBefore (rest_after from) from event × AreLate (Some event) events

-- the events of a piece do
late_others : (profile : Profile) (first : Event) (others : List Event)
    → AreSpaced profile (first ∷ others) → AreLate (Some first) others
late_others profile first [] spaced = tt
late_others profile first (next ∷ others) spaced =
    (word_waits (Some first) next spaced.0.0, late_others profile next others spaced.1)

-- and so do those of an end
late_end : (from : Option Event) (front end : List Event) → AreLate from (front ++ end)
    → AreLate None end
late_end from [] [] late = tt
late_end from [] (event ∷ end) late = (tt, late.1)
late_end from (event ∷ front) end late = late_end (Some event) front end late.1

-- so do the words of an end with others after them
late_on : (first : Event) (words more : List Event) → AreLate (Some first) words
    → AreLate (last_of (first ∷ words)) more → AreLate (Some first) (words ++ more)
late_on first [] more late also = also
late_on first (next ∷ words) more late also =
    (late.0, late_on next words more late.1 also)

late_both : (words more : List Event) → AreLate None words → AreLate (last_of words) more
    → AreLate None (words ++ more)
late_both [] more late also = also
late_both (first ∷ words) more late also = (tt, late_on first words more late.1 also)

-- the pieces of the end by itself
abbrev pub alone : List Piece → List Event → List Piece
alone later words = later ++ with_foreign words []

-- the rows of an end begin with its foreign words
pub rows_begin : (later : List Piece) (words : List Event)
    → events_of (alone later words) ≡ words ++ events_of later
rows_begin [] words = foreign_rows words [] ∙ sym (append-nil words)
rows_begin (piece ∷ later) words =
    ap (λ rows. rows ++ piece_events piece) (rows_begin later words)
    ∙ append_assoc words (events_of later) (piece_events piece)

-- rows that begin anew do so with others after them
pub anew_still : (rows others : List Event) → BeginAnew rows → BeginAnew (rows ++ others)
anew_still [] others anew = absurd anew
anew_still (row ∷ rows) others anew = anew

-- a foreign word begins nothing anew
pub begins_nothing : (event : Event) → IsForeignWord event
    → IsBlockWord event ⊎ IsBreakEvent event → ⊥
begins_nothing (Word at Controller word) low (inl high) = omega arith
begins_nothing (Word at line word) low (inl high) = absurd high
begins_nothing (Word at line word) low (inr break) = break
begins_nothing (Break at length) low anew = low

-- so an end that begins anew has no foreign words in front
none_anew : (words rest : List Event) → AreForeignWords words → BeginAnew (words ++ rest)
    → words ≡ []
none_anew [] rest foreign anew = refl
none_anew (word ∷ words) rest foreign anew = absurd (begins_nothing word foreign.0 anew)

-- rows that go on don't begin anew with words of a piece after its first
goes_on : (middle end : List Event) → AreForeignWords (middle ++ end) → BeginAnew end → ⊥
goes_on middle [] words anew = anew
goes_on middle (event ∷ end) words anew =
    begins_nothing event (foreign_end middle (event ∷ end) words).0 anew

-- foreign words, each by itself
pub all_foreign : (words : List Event) → AreForeignWords words → All IsForeignWord words
all_foreign words foreign = All-from_recursion IsForeignWord words (each words foreign)
  where
    each : (words : List Event) → AreForeignWords words → AllByRecursion IsForeignWord words
    each [] foreign = tt
    each (word ∷ words) foreign = (foreign.0, each words foreign.1)

-- Pieces have a boundary at the end of rows in front.
pub record Passed (front : List Event) (pieces : List Piece) : Type 0 where
  pub later : List Piece
  pub before : List Piece
  pub order : pieces ≡ later ++ before
  pub rows : events_of before ≡ front

module _ (scope : Scope) where
  -- further words of foreign traffic stand, each an act by itself
  words_stand : (events : List Event) (pieces : List Piece) → ArePieces scope pieces
      → position_of scope pieces ≡ InForeign → AreLate (last_of (events_of pieces)) events
      → AreForeignWords events → ArePieces scope (with_foreign events pieces)
  words_stand [] pieces are here late words = are
  words_stand (event ∷ events) pieces are here late words =
      words_stand events (Whole acts.Foreign (event ∷ []) ∷ pieces) (
        record { said = inr (event, refl, words.0); spaced = tt },
        record {
          first = event;
          others = [];
          begins = refl;
          comes = inr (words.0, here, late.0);
          levels = tt;
        },
        are,
      ) refl (rw (last_push (events_of pieces) event) late.1) words.1

  -- foreign acts leave foreign traffic
  pub foreign_position : (events : List Event) (pieces : List Piece)
      → position_of scope pieces ≡ InForeign
      → position_of scope (with_foreign events pieces) ≡ InForeign
  foreign_position [] pieces here = here
  foreign_position (event ∷ events) pieces here =
      foreign_position events (Whole acts.Foreign (event ∷ []) ∷ pieces) refl

  module _ (piece : Piece) (pieces : List Piece) (are : ArePieces scope (piece ∷ pieces)) where
    -- how a piece may go on from a cut
    its_kind : Kind (profile_of scope.begins) piece (position_of scope pieces)
        (last_of (events_of pieces)) are.1.first are.1.others
    its_kind = kind scope (position_of scope pieces) (last_of (events_of pieces)) are.1.first
        are.1.others piece are.0.said are.1.begins are.1.comes

    -- inside a piece go on words after its first
    inside_others : (event : Event) (middle end : List Event)
        → piece_events piece ≡ event ∷ middle ++ end → are.1.others ≡ middle ++ end
    inside_others event middle end is = cc (are.1.begins, is)

    words_inside : (event : Event) (middle end : List Event)
        → piece_events piece ≡ event ∷ middle ++ end → AreForeignWords (middle ++ end)
    words_inside event middle end is = rw (inside_others event middle end is) at its_kind.words

  -- pieces in order have a boundary where the rest begins anew
  pub pass_at : (pieces : List Piece) (front end : List Event) → ArePieces scope pieces
      → events_of pieces ≡ front ++ end → BeginAnew end → Passed front pieces
  pass_at [] front [] are whole anew = absurd anew
  pass_at [] [] (event ∷ end) are whole anew = absurd cc
  pass_at [] (first ∷ front) (event ∷ end) are whole anew = absurd cc
  pass_at (piece ∷ pieces) front end are whole anew =
      pass_on (λ middle rows begun. pass_at pieces front middle are.2 rows begun)
      (divide (events_of pieces) (piece_events piece) front end whole)
    where
      pass_on : ((middle : List Event) → events_of pieces ≡ front ++ middle → BeginAnew middle
          → Passed front pieces)
          → IsDivided (events_of pieces) (piece_events piece) front end
          → Passed front (piece ∷ pieces)
      pass_on earlier (inl ([], rows, ends)) = record {
        later = piece ∷ [];
        before = pieces;
        order = refl;
        rows = rows ∙ append-nil front;
      }
      pass_on earlier (inl (event ∷ middle, rows, ends)) =
          let passed = earlier (event ∷ middle) rows (rw ends at anew) in
          record {
            later = piece ∷ passed.later;
            before = passed.before;
            order = ap (λ ps. piece ∷ ps) passed.order;
            rows = passed.rows;
          }
      pass_on earlier (inr (event, middle, ends)) =
          absurd (goes_on middle end (words_inside piece pieces are event middle end ends) anew)

module _ (scope : Scope) (setups : Setups) where
  -- the recording that begins with the end
  abbrev new : Scope
  new = joined_with setups scope

  abbrev profile : Profile
  profile = profile_of scope.begins

  -- What a cut leaves of a transcript: what goes on of the pieces in front of it are foreign words,
  -- and the others begin anew.
  pub record Cutting (front end : List Event) (pieces : List Piece) : Type 0 where
    pub later : List Piece
    pub words : List Event
    pub before : List Piece
    pub order : pieces ≡ later ++ before
    pub in_front : ArePieces scope before
    pub rows : events_of before ≡ front ++ words
    pub stand : ArePieces new (alone later words)
    pub whole : events_of (alone later words) ≡ end
    pub foreign : AreForeignWords words
    pub late : AreLate None words
    pub anew : later ≢ [] → BeginAnew (events_of later)

  -- where all that is left are foreign words of pieces in front
  all_words : (front words : List Event) (before : List Piece) → ArePieces scope before
      → events_of before ≡ front ++ words → AreForeignWords words → AreLate None words
      → Cutting front words before
  all_words front words before are rows foreign late = record {
    later = [];
    words = words;
    before = before;
    order = refl;
    in_front = are;
    rows = rows;
    stand = words_stand new words [] tt refl late foreign;
    whole = foreign_rows words [];
    foreign = foreign;
    late = late;
    anew = λ some. absurd (some refl);
  }

  -- a piece may come after pieces of the end
  abbrev pub ComesAlone : List Piece → Piece → Event → Type 0
  ComesAlone pieces piece first =
      MayCome profile piece (position_of new pieces) (last_of (events_of pieces)) first

  -- what it says of levels fits there
  abbrev pub FitsAlone : List Piece → Piece → Type 0
  FitsAlone pieces piece = PieceFits (Joined setups profile)
      (levels_of profile (levels_before new) pieces) piece

  -- so it does where a piece of the whole may come in the end after the pieces before it
  abbrev pub AllFitAlone : List Event → List Event → Type 0
  AllFitAlone front end =
      (middle more : List Event) (piece : Piece) (pieces : List Piece)
      → end ≡ (middle ++ piece_events piece) ++ more → (cut : Cutting front middle pieces)
      → (are : ArePieces scope (piece ∷ pieces))
      → ComesAlone (alone cut.later cut.words) piece are.1.first
      → FitsAlone (alone cut.later cut.words) piece

  -- a piece after a cut of the pieces before it
  module _ (front middle : List Event) (piece : Piece) (pieces : List Piece)
      (are : ArePieces scope (piece ∷ pieces)) (cut : Cutting front middle pieces) where
    abbrev here : List Piece
    here = alone cut.later cut.words

    abbrev With_it : Type 0
    With_it = Cutting front (middle ++ piece_events piece) (piece ∷ pieces)

    -- the last row in the end, before a piece, is none, or the one that is there
    last_before : events_of pieces ≡ front ++ middle
        → IsNothingOr (last_of (events_of here)) (last_of (events_of pieces))
    last_before rows = rw (cut.whole, rows) (last_in_end front middle)

    -- it stands after what is in the end
    stands_on : ComesAlone here piece are.1.first → FitsAlone here piece
        → BeginAnew (events_of cut.later ++ piece_events piece) → With_it
    stands_on comes fits anew = record {
      later = piece ∷ cut.later;
      words = cut.words;
      before = cut.before;
      order = ap (λ ps. piece ∷ ps) cut.order;
      in_front = cut.in_front;
      rows = cut.rows;
      stand = (
        record {
          said = said_stays (Joined setups profile) no_levels scope refl piece are.0.said;
          spaced = are.0.spaced;
        },
        record {
          first = are.1.first;
          others = are.1.others;
          begins = are.1.begins;
          comes = comes;
          levels = fits;
        },
        cut.stand,
      );
      whole = ap (λ rows. rows ++ piece_events piece) cut.whole;
      foreign = cut.foreign;
      late = cut.late;
      anew = λ some. anew;
    }

    -- one that begins with a foreign word, after such words alone, stands as foreign words
    stands_as_words : events_of pieces ≡ front ++ middle → cut.later ≡ []
        → AreForeignWords (piece_events piece) → AreLate (last_of middle) (piece_events piece)
        → With_it
    stands_as_words rows none words late =
        let its = piece_events piece in
        let same : cut.words ≡ middle = sym (foreign_rows cut.words []) ∙ (rw none at cut.whole) in
        all_words front (middle ++ its) (piece ∷ pieces) are
        (ap (λ es. es ++ its) rows ∙ append_assoc front middle its)
        (foreign_both middle its (rw same at cut.foreign) words)
        (late_both middle its (rw same at cut.late) late)

    -- so it stands in the end, after others or as the first
    stands_in_end : events_of pieces ≡ front ++ middle
        → (ComesAlone here piece are.1.first → FitsAlone here piece) → (later : List Piece)
        → cut.later ≡ later → With_it
    stands_in_end rows fits (top ∷ later) is =
        let same : position_of scope pieces ≡ position_of new here = rw (cut.order, is) in
        let comes = comes_after profile piece (position_of new here) (last_of (events_of here))
        (last_of (events_of pieces)) are.1.first (last_before rows) (rw same at are.1.comes) in
        stands_on comes (fits comes) (anew_still (events_of cut.later) (piece_events piece)
        (cut.anew (λ none. cc (is, none))))
    stands_in_end rows fits [] none =
        let its = its_kind scope piece pieces are in
        let less = last_before rows in
        let there : position_of new here ≡ InForeign =
        rw none (foreign_position new cut.words [] refl) in
        elim its.way [
          | inl way ↦ stands_as_words rows none (rw are.1.begins (way.0, its.words))
              (rw are.1.begins (
                late_after (last_of middle) (last_of (events_of pieces)) are.1.first
                    (rw cut.whole at less) way.1,
                late_others profile are.1.first are.1.others (rw are.1.begins at are.0.spaced),
              ))
          | inr way ↦
              let comes : ComesAlone here piece are.1.first =
              rw there (comes_after profile piece InForeign (last_of (events_of here))
              (last_of (events_of pieces)) are.1.first less way.1) in
              stands_on comes (fits comes) (rw (none, are.1.begins) way.0)
        ]

  -- a cut inside a piece leaves foreign words of it
  cut_inside : (front end : List Event) (piece : Piece) (pieces : List Piece)
      → ArePieces scope (piece ∷ pieces) → events_of (piece ∷ pieces) ≡ front ++ end
      → (event : Event) (middle : List Event) → piece_events piece ≡ event ∷ middle ++ end
      → Cutting front end (piece ∷ pieces)
  cut_inside front end piece pieces are whole event middle is =
      let late = rw (inside_others scope piece pieces are event middle end is) at
      (late_others profile are.1.first are.1.others (rw are.1.begins at are.0.spaced)) in
      all_words front end (piece ∷ pieces) are whole
      (foreign_end middle end (words_inside scope piece pieces are event middle end is))
      (late_end (Some are.1.first) middle end late)

  -- pieces in order may be cut anywhere, where all fit
  cut_at : (front whole_end : List Event) → AllFitAlone front whole_end → (pieces : List Piece)
      (end more : List Event) → whole_end ≡ end ++ more → ArePieces scope pieces
      → events_of pieces ≡ front ++ end → Cutting front end pieces
  cut_at [] whole_end fit [] [] more all are whole = all_words [] [] [] tt refl tt tt
  cut_at [] whole_end fit [] (event ∷ end) more all are whole = absurd cc
  cut_at (event ∷ front) whole_end fit [] end more all are whole = absurd cc
  cut_at front whole_end fit (piece ∷ pieces) end more all are whole =
      cut_on
      (λ middle rest parts rows. cut_at front whole_end fit pieces middle rest parts are.2 rows)
      (divide (events_of pieces) (piece_events piece) front end whole)
    where
      cut_on : ((middle rest : List Event) → whole_end ≡ middle ++ rest
          → events_of pieces ≡ front ++ middle → Cutting front middle pieces)
          → IsDivided (events_of pieces) (piece_events piece) front end
          → Cutting front end (piece ∷ pieces)
      cut_on earlier (inl (middle, rows, ends)) =
          let its = piece_events piece in
          let parts : whole_end ≡ (middle ++ its) ++ more = all ∙ ap (λ es. es ++ more) ends in
          let cut = earlier middle (its ++ more) (parts ∙ append_assoc middle its more) rows in
          rw ends (stands_in_end front middle piece pieces are cut rows
          (fit middle more piece pieces parts cut are) cut.later refl)
      cut_on earlier (inr (event, middle, ends)) =
          cut_inside front end piece pieces are whole event middle ends

  -- the end of a transcript has an act list of its own, where all pieces fit
  pub splits : (front end : List Event) (pieces : List Piece) → AllFitAlone front end
      → IsActList scope pieces (front ++ end) → SplitsAt scope setups front end pieces
  splits front end pieces fit list =
      let cut = cut_at front end fit pieces end [] (sym (append-nil end)) list.in_order
      list.whole in
      let rows = sym cut.whole ∙ rows_begin cut.later cut.words in
      record {
        later = cut.later;
        words = cut.words;
        before = cut.before;
        order = cut.order;
        in_front = cut.in_front;
        rows = cut.rows;
        act_list = record { in_order = cut.stand; whole = cut.whole };
        clean = λ anew. none_anew cut.words (events_of cut.later) cut.foreign (rw rows at anew);
      }

-- what the law of cuts says
abbrev pub CutsLaw : Type 0
CutsLaw = (scope : Scope) (setups : Setups) (front end : List Event) (pieces : List Piece)
    → MayBeReadAlone scope setups front end → IsActList scope pieces (front ++ end)
    → SplitsAt scope setups front end pieces
