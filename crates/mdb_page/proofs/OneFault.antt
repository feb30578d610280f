-- How one fault more of a survey is listed, or not.
use Rattle.mdb_page.proofs.Words.{All, All-push, Ended, FaultListing, HasNoRoom, IsPlace, LINES_ROOM, List, PageFault, PageLines, [], ap, arith, false, length, length-append, length-set, map, map-append, refl, rows_of_faults, set, subst, sym, take, take_more_set, text_lines, true, written_lines, ℕ, ◌++◌, ◌+◌, ◌<◌, ◌∙◌, ◌∷◌, ◌≡◌, ◌⊎◌}
use Rattle.mdb_surveyor.specs.Lines.{ended_lines, lines_of}
use Rattle.mdb_page.specs.inner.Surveying.{HasListed}

-- The faults of a survey are listed, and one comes more.
module _ {body : List ℕ} {skip : ℕ} {earlier : List Ended} {listing : FaultListing}
    {faults : List PageFault} {lines : PageLines} (it : Ended)
    (has : HasListed body skip earlier listing faults lines) (zero : listing.skip ≡ 0) where
  -- It comes after one that had no room.
  pub stays_full : listing.is_full ≡ true → HasListed body skip (it ∷ earlier) listing faults lines
  stays_full full =
      let rest : HasNoRoom (length faults) has.later has.shown = rw full at has.rest in
      record {
        later = it ∷ has.later;
        shown = has.shown;
        passed = has.passed;
        parts = ap (λ l. it ∷ l) has.parts;
        left = has.left;
        none = λ some. absurd (some zero);
        number = has.number;
        few = has.few;
        rest = rw full (record {
          newer = it ∷ rest.newer;
          next = rest.next;
          are = ap (λ l. it ∷ l) rest.are;
          full = rest.full;
        });
        listed = has.listed;
      }

  later_parts : listing.is_full ≡ false → it ∷ earlier ≡ it ∷ (has.shown ++ has.passed)
  later_parts some_room =
      let later : has.later ≡ [] = rw some_room at has.rest in
      ap (λ l. it ∷ l) (has.parts ∙ ap (λ l. l ++ (has.shown ++ has.passed)) later)

  module _ {next : FaultListing} (some_room : listing.is_full ≡ false)
      (same : next.skip ≡ listing.skip) (size : next.bytes ≡ listing.bytes) where
    -- It has no room.
    pub fills : next.listed ≡ listing.listed → next.is_full ≡ true
        → (length has.shown ≡ length faults)
        ⊎ (LINES_ROOM < length (lines_of text_lines (it ∷ has.shown)))
        → HasListed body skip (it ∷ earlier) next faults lines
    fills number full why = record {
      later = it ∷ [];
      shown = has.shown;
      passed = has.passed;
      parts = later_parts some_room;
      left = omega (arith, has.left, same);
      none = λ some. absurd (some (same ∙ zero));
      number = number ∙ has.number;
      few = has.few;
      rest = rw full (record { newer = []; next = it; are = refl; full = why });
      listed = rw size has.listed;
    }

    -- It is listed.
    pub lists_one : {after : PageLines} (entry : PageFault)
        → next.listed ≡ listing.listed + 1 → next.is_full ≡ false
        → listing.listed < length faults → entry.row ≡ it.fault.row
        → IsPlace listing.bytes body entry.row entry.offset
        → written_lines after ≡ written_lines lines ++ ended_lines text_lines it
        → HasListed body skip (it ∷ earlier) next (set faults listing.listed entry) after
    lists_one entry more still room row is added =
        let place : ℕ = listing.listed in
        let now : List PageFault = set faults place entry in
        let Place : PageFault → Type 0 =
        λ entry. IsPlace listing.bytes body entry.row entry.offset in
        let number : length (it ∷ has.shown) ≡ place + 1 = omega (arith, has.number) in
        let taken : take (length (it ∷ has.shown)) now ≡ take place faults ++ entry ∷ [] =
        ap (λ n. take n now) number ∙ take_more_set faults place entry room in
        record {
          later = [];
          shown = it ∷ has.shown;
          passed = has.passed;
          parts = later_parts some_room;
          left = omega (arith, has.left, same);
          none = λ some. absurd (some (same ∙ zero));
          number = more ∙ sym number;
          few = omega (arith, number, room, length-set faults place entry);
          rest = rw still refl;
          listed = rw size (record {
            rows = ap (map (λ entry. entry.row)) taken
                ∙ map-append (λ entry. entry.row) (take place faults) (entry ∷ [])
                ∙ ap (λ l. l ++ entry.row ∷ [])
                (ap (λ n. map (λ entry. entry.row) (take n faults)) has.number ∙ has.listed.rows)
                ∙ ap (λ n. rows_of_faults has.shown ++ n ∷ []) row;
            places = subst (All Place) (sym taken) (All-push Place (take place faults) entry
                (subst (λ n. All Place (take n faults)) (sym has.number) has.listed.places) is);
            text = added ∙ ap (λ l. l ++ ended_lines text_lines it) has.listed.text;
          });
        }

-- The lines of a fault, with those that are listed, are too many.
pub too_long : (it : Ended) (shown : List Ended) (lines : PageLines) (text : List ℕ)
    → written_lines lines ≡ lines_of text_lines shown → text ≡ ended_lines text_lines it
    → LINES_ROOM < length (written_lines lines) + length text
    → LINES_ROOM < length (lines_of text_lines (it ∷ shown))
too_long it shown lines text listed is more =
    let sum : length (written_lines lines) + length text
    ≡ length (lines_of text_lines (it ∷ shown)) =
    sym (length-append (written_lines lines) text)
    ∙ ap (λ l. length (l ++ text)) listed
    ∙ ap (λ l. length (lines_of text_lines shown ++ l)) is in
    rw sum at more
