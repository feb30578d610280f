-- How a row goes on with pieces.
use Rattle.mdb_page.proofs.Words.{Act, ActListing, AreOf, ArePieces, Event, HasAdded, HasBegun, HasTakenPieces, IsSaid, IsTail, Lengthens, List, MayStand, None, Option, PageAct, Piece, Rows, Scope, Some, Whole, [], act_in, ap, append-nil, arith, closed_pieces, events_of, inl, inr, length, length-append, map, map-append, nil_from_length, open_events, piece_events, refl, start_of, sym, ℕ, ◌++◌, ◌+◌, ◌<◌, ◌∙◌, ◌∷◌, ◌≡◌, ◌≢◌, ◌≤◌}
use Rattle.mdb_bus.specs.declared.act.Act.TheVariants as acts
use Rattle.mdb_bus.proofs.Breaks.{IsBreak, break_said, closed_tail, is_tail, on_closed, whole_of}
use Rattle.mdb_page.specs.inner.Listing.{HasListed}

pub no_break : (act : Act) → ((long : ℕ) → act ≡ acts.Break long → ⊥) → IsBreak (Some act) → ⊥
no_break (acts.Break long) not is = not long refl
no_break act not is = is

-- no row is open where all pieces are closed
none_open : (pieces : List Piece) → closed_pieces pieces ≡ pieces → open_events pieces ≡ []
none_open [] closed = refl
none_open (Whole act events ∷ pieces) closed = refl
none_open (tail ∷ pieces) closed = absurd (omega (arith, ap length closed))

-- the rows that are open are those of the tail at the end
open_tail : (piece : Piece) (pieces : List Piece) → IsTail piece
    → open_events (piece ∷ pieces) ≡ piece_events piece
open_tail (Whole act events) pieces is = absurd is
open_tail tail pieces is = refl

pub tail_is_none : (piece : Piece) → IsTail piece → act_in piece ≡ None
tail_is_none (Whole act events) is = absurd is
tail_is_none tail is = refl

-- a tail has rows
some_rows : {scope : Scope} {pieces : List Piece} {piece : Piece} → MayStand scope pieces piece
    → piece_events piece ≢ []
some_rows stands none = cc (none, stands.begins)

-- The rows of pieces are those of the closed ones, and those of an open tail.
all_rows : (pieces : List Piece)
    → events_of pieces ≡ events_of (closed_pieces pieces) ++ open_events pieces
all_rows [] = refl
all_rows (Whole act events ∷ pieces) = sym (append-nil (events_of (Whole act events ∷ pieces)))
all_rows (tail ∷ pieces) = refl

-- there are no more pieces than rows
pub few_pieces : (scope : Scope) (pieces : List Piece) → ArePieces scope pieces
    → length pieces ≤ length (events_of pieces)
few_pieces scope [] order = omega arith
few_pieces scope (piece ∷ pieces) order = omega (
  arith,
  few_pieces scope pieces order.2,
  ap length order.1.begins,
  length-append (events_of pieces) (piece_events piece),
)

-- Pieces go on by a row.
module _ {pieces longer : List Piece} {at : ℕ} {act : Option Act}
    (turn : Lengthens pieces at act longer) where
  ordered : ArePieces turn.scope (turn.grown.newest ∷ turn.grown.earlier)
  ordered = rw turn.grown.are at turn.in_order

  -- there are few pieces before the newest one
  pub few_earlier : length turn.grown.earlier ≤ length (events_of turn.grown.earlier)
  few_earlier = few_pieces turn.scope turn.grown.earlier ordered.2

  -- what a row goes on from, where it is no break
  stands_on : (IsBreak act → ⊥)
      → (closed_pieces pieces ≡ turn.grown.earlier) × (open_events pieces ≡ turn.grown.begun)
  stands_on not =
      let grown = turn.grown in
      elim grown.from [
        | inl new ↦
            let closed = on_closed turn.scope grown.earlier grown.newest ordered.1
            (λ is. not (rw grown.ends at is)) in (
              ap closed_pieces new.1 ∙ closed,
              ap open_events new.1 ∙ (none_open grown.earlier closed ∙ sym new.0),
            )
        | inr old ↦ (
          ap closed_pieces old.3 ∙ closed_tail old.0 grown.earlier old.1,
          ap open_events old.3 ∙ (open_tail old.0 grown.earlier old.1 ∙ old.2),
        )
      ]

-- what a break goes on from
break_on : {pieces longer : List Piece} {at : ℕ} {act : Act}
    (turn : Lengthens pieces at (Some act) longer) → IsBreak (Some act) → (other : Scope)
    → ArePieces other pieces → (pieces ≡ turn.grown.earlier) × (turn.grown.begun ≡ [])
break_on {act = act} turn is other before =
    let grown = turn.grown in
    let said : IsSaid turn.scope (Whole act (piece_events grown.newest)) =
    rw (whole_of grown.newest act grown.ends) at (ordered turn).0.said in
    let none : grown.begun ≡ [] = nil_from_length grown.begun (omega (
      arith,
      break_said turn.scope act (piece_events grown.newest) is said,
      ap length grown.events,
      length-append grown.begun (turn.row ∷ []),
    )) in
    elim grown.from [
      | inl new ↦ (new.1, none)
      | inr old ↦
          let stood : ArePieces other (old.0 ∷ grown.earlier) = rw old.3 at before in
          absurd (some_rows stood.1 (old.2 ∙ none))
    ]

-- How a row changes what has been taken.

no_more : (begun : List Event) (row : Event) → begun ++ row ∷ [] ≢ []
no_more begun row none = omega (arith, ap length none, length-append begun (row ∷ []))

-- One row more of an act that has begun.
module _ {stay : ℕ} {before after : List PageAct} {pieces : List Piece} {begun : List Event}
    {listing : ActListing} {rows : Rows}
    (has : HasBegun stay before pieces begun listing after rows) where
  pub row_more : {new : Rows} {at : ℕ} (row : Event) → at ≡ start_of row → HasAdded rows at new
      → HasBegun stay before pieces (begun ++ row ∷ []) listing after new
  row_more {new = new} row is added = record {
    listed = has.listed;
    from = added.first ∙ has.from;
    to = omega (arith, added.last, has.to, length-append begun (row ∷ []));
    are = λ some. record {
      from = added.first ∙ has.from;
      to = omega (arith, added.last, has.to, length-append begun (row ∷ []));
      began = began_of begun has.are has.to;
      ended = (
        map start_of begun,
        map-append start_of begun (row ∷ [])
            ∙ ap (λ t. map start_of begun ++ t ∷ []) (sym (added.end ∙ is)),
      );
    };
  }
    where
      before_it : ℕ
      before_it = length (events_of pieces)

      began_of : (begun : List Event) → (begun ≢ [] → AreOf rows before_it begun)
          → rows.last ≡ before_it + length begun
          → (others : List ℕ) × (map start_of (begun ++ row ∷ []) ≡ new.start ∷ others)
      began_of [] are to = (
        [],
        ap (λ t. t ∷ []) (sym is ∙ sym (added.started (omega (arith, has.from, to)))),
      )
      began_of (event ∷ others) are to =
          let had = (are (λ none. absurd (cc none))).began in
          let same : new.start ≡ rows.start =
          added.start (λ one. omega (arith, one, has.from, to)) in (
            had.0 ++ start_of row ∷ [],
            map-append start_of (event ∷ others) (row ∷ [])
                ∙ (ap (λ l. l ++ start_of row ∷ []) had.1
                ∙ ap (λ t. t ∷ (had.0 ++ start_of row ∷ [])) (sym same)),
          )

-- the rows of an act that has begun, once it has one
pub are_of : {stay : ℕ} {before after : List PageAct} {pieces : List Piece}
    {listing : ActListing} {rows : Rows} (begun : List Event) (row : Event)
    → HasBegun stay before pieces (begun ++ row ∷ []) listing after rows
    → AreOf rows (length (events_of pieces)) (begun ++ row ∷ [])
are_of begun row has = has.are (no_more begun row)

module _ {stay : ℕ} {before after : List PageAct} {pieces : List Piece} {listing : ActListing}
    {rows : Rows} (has : HasTakenPieces stay before pieces listing after rows) where
  -- a row that ends no act
  pub row_taken : {longer : List Piece} {new : Rows} {at : ℕ} → Lengthens pieces at None longer
      → HasAdded rows at new → HasTakenPieces stay before longer listing after new
  row_taken {longer = longer} {new = new} turn added =
      let grown = turn.grown in
      let on = stands_on turn (λ is. is) in
      let tail = is_tail grown.newest grown.ends in
      let closed : closed_pieces longer ≡ closed_pieces pieces =
      ap closed_pieces grown.are ∙ (closed_tail grown.newest grown.earlier tail ∙ sym on.0) in
      let opened : open_events longer ≡ open_events pieces ++ turn.row ∷ [] =
      ap open_events grown.are ∙ (open_tail grown.newest grown.earlier tail ∙ (grown.events
      ∙ ap (λ l. l ++ turn.row ∷ []) (sym on.1))) in
      let more = row_more has.begun turn.row turn.start added in
      record {
        scope = turn.scope;
        in_order = turn.in_order;
        begun = rw (closed, opened) more;
      }

  -- where the next act is no break, it goes on with the tail
  pub begun_by : {longer : List Piece} {at : ℕ} {act : Option Act}
      (turn : Lengthens pieces at act longer) → (IsBreak act → ⊥)
      → HasBegun stay before turn.grown.earlier turn.grown.begun listing after rows
  begun_by turn not =
      let on = stands_on turn not in rw (on.0, on.1) at has.begun

  -- the number of the last row
  pub last_row : rows.last ≡ length (events_of pieces)
  last_row = has.begun.to ∙ sym (ap length (all_rows pieces)
      ∙ length-append (events_of (closed_pieces pieces)) (open_events pieces))

  -- where it is one, the tail is cut
  pub begun_at_break : {later : List PageAct} {longer : List Piece} {next : ActListing}
      {new : Rows} {at : ℕ} {act : Act} (turn : Lengthens pieces at (Some act) longer)
      → IsBreak (Some act) → HasListed stay before pieces next later
      → new.first ≡ rows.last + 1 → new.last ≡ rows.last
      → HasBegun stay before turn.grown.earlier turn.grown.begun next later new
  begun_at_break {later = later} {next = next} {new = new} turn is listed first last =
      let on = break_on turn is has.scope has.in_order in
      let its : HasBegun stay before pieces [] next later new = record {
        listed = listed;
        from = first ∙ ap (λ n. n + 1) last_row;
        to = omega (arith, last, last_row);
        are = λ some. absurd (some refl);
      } in
      rw on.1 (rw on.0 at its)

-- an act that has ended is listed
pub act_taken : {stay : ℕ} {before after : List PageAct} {pieces longer : List Piece}
    {listing : ActListing} {rows new : Rows} {at : ℕ} {act : Act}
    (turn : Lengthens pieces at (Some act) longer)
    → AreOf rows (length (events_of turn.grown.earlier)) (turn.grown.begun ++ turn.row ∷ [])
    → HasListed stay before
    (Whole act (turn.grown.begun ++ turn.row ∷ []) ∷ turn.grown.earlier) listing after
    → new.first ≡ rows.last + 1 → new.last ≡ rows.last
    → HasTakenPieces stay before longer listing after new
act_taken {stay} {before} {after} {longer = longer} {listing = listing} {new = new} {act = act} turn
    are listed first last =
    let grown = turn.grown in
    let events = grown.begun ++ turn.row ∷ [] in
    let is : longer ≡ Whole act events ∷ grown.earlier =
    grown.are ∙ ap (λ piece. piece ∷ grown.earlier)
    (whole_of grown.newest act grown.ends ∙ ap (λ l. Whole act l) grown.events) in
    let counted = length-append (events_of grown.earlier) events in
    rw is (record {
      scope = turn.scope;
      in_order = rw is at turn.in_order;
      begun = record {
        listed = listed;
        from = omega (arith, first, are.to, counted);
        to = omega (arith, last, are.to, counted);
        are = λ some. absurd (some refl);
      };
    })

-- an open tail, with its rows
pub record HasTail (stay : ℕ) (before : List PageAct) (pieces : List Piece)
    (listing : ActListing) (after : List PageAct) (rows : Rows) : Type 0 where
  pub tail : Piece
  pub earlier : List Piece
  pub parts : pieces ≡ tail ∷ earlier
  pub is : IsTail tail
  pub few : length earlier ≤ length (events_of earlier)
  pub listed : HasListed stay before earlier listing after
  pub are : AreOf rows (length (events_of earlier)) (piece_events tail)

module _ {stay : ℕ} {before after : List PageAct} {listing : ActListing} {rows : Rows} where
  -- there is an open tail where the rows aren't all of acts
  pub tail_of : (pieces : List Piece) → HasTakenPieces stay before pieces listing after rows
      → rows.first ≤ rows.last → HasTail stay before pieces listing after rows
  tail_of [] has some = absurd (omega (arith, has.begun.from, has.begun.to, some))
  tail_of (Whole act events ∷ pieces) has some =
      absurd (omega (arith, has.begun.from, has.begun.to, some))
  tail_of (tail ∷ pieces) has some = record {
    tail = tail;
    earlier = pieces;
    parts = refl;
    is = tt;
    few = few_pieces has.scope pieces has.in_order.2;
    listed = has.begun.listed;
    are = has.begun.are (some_rows has.in_order.1);
  }

  -- and none where they are
  pub no_tail : (pieces : List Piece) → HasTakenPieces stay before pieces listing after rows
      → rows.last < rows.first → HasListed stay before pieces listing after
  no_tail [] has none = has.begun.listed
  no_tail (Whole act events ∷ pieces) has none = has.begun.listed
  no_tail (tail ∷ pieces) has none = absurd (some_rows has.in_order.1
      (nil_from_length (piece_events tail) (omega (arith, has.begun.from, has.begun.to, none))))
