-- How one entry more is listed.
use Rattle.mdb_page.proofs.Words.{Act, ActListing, AreOf, HasRows, IsKept, IsOfPiece, List, Moves, None, Option, PageAct, Piece, ROWS_MAX, Rows, Shows, ShowsAct, Some, [], act_in, ap, arith, events_of, get_or, get_or-set_other, get_or-set_same, inl, inr, length, length-set, piece_events, place_in, refl, set, with_rows, ℕ, ◌+◌, ◌<◌, ◌∙◌, ◌∷◌, ◌≡◌, ◌≢◌, ◌≤◌}
use Rattle.mdb_bus.specs.declared.act.Act.TheVariants as acts
use Rattle.mdb_page.specs.Acts.{AreListed}
use Rattle.mdb_page.specs.inner.Listing.{HasListed}
use Rattle.mdb_page.proofs.Ring.{goes_on, kept_apart, kept_before, less_or_not, place_low, stays_full}

-- an entry stays that of its piece when pieces come after it
entry_stays : (pieces : List Piece) (piece : Piece) (count : ℕ) (entry : PageAct)
    → IsOfPiece pieces count entry → IsOfPiece (piece ∷ pieces) count entry
entry_stays pieces piece count entry is = record {
  later = piece ∷ is.later;
  piece = is.piece;
  earlier = is.earlier;
  are = ap (λ l. piece ∷ l) is.are;
  number = is.number;
  rows = is.rows;
  shows = is.shows;
}

-- the entry of the newest piece
newest : (pieces : List Piece) (piece : Piece) (entry : PageAct)
    → HasRows (length (events_of pieces)) (piece_events piece) entry.first entry.last
    entry.start entry.end → ShowsAct entry (act_in piece)
    → IsOfPiece (piece ∷ pieces) (length pieces) entry
newest pieces piece entry rows shows = record {
  later = [];
  piece = piece;
  earlier = pieces;
  are = refl;
  number = refl;
  rows = rows;
  shows = shows;
}

-- One piece more is listed, or not.
module _ {pieces : List Piece} {stay : ℕ} {before after : List PageAct} (piece : Piece)
    (are : AreListed pieces stay before after) where
  -- the place of a piece
  abbrev place_of : ℕ → ℕ
  place_of = place_in stay (length before)

  abbrev newest_place : ℕ
  newest_place = place_of (length pieces)

  kept_so : (number : ℕ) → IsKept stay (length before) (length (piece ∷ pieces)) number
      → IsKept stay (length before) (length pieces + 1) number
  kept_so number kept =
      let more : length (piece ∷ pieces) ≡ length pieces + 1 = omega arith in rw more at kept

  -- an earlier one stays where it was
  put_before : (number : ℕ) (other : PageAct) → number < length pieces
      → IsKept stay (length before) (length (piece ∷ pieces)) number
      → place_of number < length before
      → IsOfPiece (piece ∷ pieces) number (get_or after (place_of number) other)
  put_before number other older kept there =
      entry_stays pieces piece number _ (are.put number other older
      (kept_before stay (length before) (length pieces) number (kept_so number kept)) there)

  -- it is listed at its place
  listed_at : (entry : PageAct) → newest_place < length before
      → IsOfPiece (piece ∷ pieces) (length pieces) entry
      → AreListed (piece ∷ pieces) stay before (set after newest_place entry)
  listed_at entry low is = record {
    room = length-set after newest_place entry ∙ are.room;
    put = λ number other within kept there. elim (less_or_not number (length pieces)) [
      | inl older ↦ rw (get_or-set_other after newest_place (place_of number) entry other
          (kept_apart stay (length before) (length pieces) number older (kept_so number kept)))
          (put_before number other older kept there)
      | inr not ↦
          let same : number ≡ length pieces = omega (arith, not, within) in
          rw (
            same,
            get_or-set_same after newest_place entry other
                (omega (arith, low, are.room)),
          ) is
    ];
    kept = λ place other past.
        let apart : place ≢ newest_place =
        λ same. omega (arith, same, past, place_low stay (length before) (length pieces)) in
        get_or-set_other after newest_place place entry other apart
        ∙ are.kept place other (omega (arith, past));
  }

  -- it has no place
  listed_not : length before ≤ newest_place → AreListed (piece ∷ pieces) stay before after
  listed_not none = record {
    room = are.room;
    put = λ number other within kept there. elim (less_or_not number (length pieces)) [
      | inl older ↦ put_before number other older kept there
      | inr not ↦
          let same : number ≡ length pieces = omega (arith, not, within) in
          absurd (omega (arith, none, ap place_of same, there))
    ];
    kept = λ place other past. are.kept place other (omega (arith, past));
  }

-- what an entry shows stays when it is given its rows
shows_with : {kind device reading break : ℕ} {block : List ℕ} (entry : PageAct) (rows : Rows)
    → Shows entry kind device block reading break
    → Shows (with_rows entry rows) kind device block reading break
shows_with entry rows shows = search

shows_act_with : (entry : PageAct) (rows : Rows) (act : Option Act) → ShowsAct entry act
    → ShowsAct (with_rows entry rows) act
shows_act_with entry rows None shows = shows_with entry rows shows
shows_act_with entry rows (Some acts.Foreign) shows = shows_with entry rows shows
shows_act_with entry rows (Some act) shows = shows_with entry rows shows

-- no piece is listed at first
pub starts_empty : (stay : ℕ) (before : List PageAct) → AreListed [] stay before before
starts_empty stay before = record {
  room = refl;
  put = λ number other within kept there. absurd (omega (arith, within));
  kept = λ place other past. refl;
}

-- A listing lists one piece more, or not.
module _ {stay : ℕ} {before after : List PageAct} {pieces : List Piece} {listing : ActListing}
    (piece : Piece)
    (has : HasListed stay before pieces listing after) (few : length pieces ≤ ROWS_MAX) where
  abbrev its_place : ℕ
  its_place = place_in stay (length before) (length pieces)

  longer : length pieces + 1 ≡ length (piece ∷ pieces)
  longer = omega arith

  -- its entry is put
  pub put_at : {next : ActListing} {rows : Rows} (place : ℕ) (shown entry : PageAct)
      → AreOf rows (length (events_of pieces)) (piece_events piece)
      → Moves (length after) listing next (Some place) → place < length after
      → ShowsAct shown (act_in piece) → entry ≡ with_rows shown rows
      → HasListed stay before (piece ∷ pieces) next (set after place entry)
  put_at {next = next} {rows = rows} place shown entry are moves inside shows is =
      let room = has.entries.room in
      let low : its_place < length before =
      elim (less_or_not its_place (length before)) [
        | inl there ↦ there
        | inr none ↦ absurd (omega (arith, has.place.full none, moves.next.0, inside, room))
      ] in
      let here : place ≡ its_place = moves.next.0 ∙ has.place.there low in
      let entries = listed_at piece has.entries entry low (rw is (newest pieces piece
      (with_rows shown rows) are (shows_act_with shown rows (act_in piece) shows))) in
      record {
        stay = moves.same ∙ has.stay;
        place = rw longer at (goes_on stay (length before) (length pieces) next.next low
            (λ some. moves.next.1 (omega (arith, some, here, room)) ∙ ap (λ n. n + 1) here)
            (λ none. moves.next.2 (omega (arith, none, here, room)) ∙ has.stay));
        number = moves.counted (omega (arith, has.number, few))
            ∙ (ap (λ n. n + 1) has.number ∙ longer);
        entries = rw here entries;
      }

  -- it isn't put
  pub put_not : {next : ActListing} → Moves (length after) listing next None
      → HasListed stay before (piece ∷ pieces) next after
  put_not {next = next} moves =
      let room = has.entries.room in
      let none : length before ≤ its_place =
      elim (less_or_not its_place (length before)) [
        | inl there ↦ absurd (omega (arith, has.place.there there, moves.next.0, there, room))
        | inr full ↦ full
      ] in
      record {
        stay = moves.same ∙ has.stay;
        place = rw longer at (stays_full stay (length before) (length pieces) next.next none
            (omega (arith, moves.next.0, moves.next.1, room)));
        number = moves.counted (omega (arith, has.number, few))
            ∙ (ap (λ n. n + 1) has.number ∙ longer);
        entries = listed_not piece has.entries none;
      }
