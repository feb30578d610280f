-- What the survey of a text comes to, by how its reading ended.
use Rattle.mdb_page.proofs.Words.{AreListed, Bool, Ended, Event, FaultListing, HasNoRoom, IsLine, IsPlace, IsSurveyed, IsUnmarked, IsWhole, LineFault, List, PageFault, PageLines, PageTold, ROWS_MAX, Scope, TellsRow, [], ap, arith, false, faultless, faulty, inl, inr, length, length-append, length-map, min, min-eq_left, min-eq_right, refl, stretch_text, subst, suc, summary_text, sym, true, written, zero, ℕ, ◌++◌, ◌+◌, ◌-◌, ◌<◌, ◌∙◌, ◌∷◌, ◌≡◌, ◌≢◌, ◌≤◌, ◌⊎◌}
use Rattle.mdb_surveyor.specs.declared.stretch.Stretch.{Stretch}
use Rattle.mdb_surveyor.specs.declared.summary.Summary.{Summary}
use Rattle.mdb_surveyor.specs.declared.surveyor.Surveyor.{Surveyor}
use Rattle.mdb_surveyor.specs.Stretches.{IsSurvey}
use Rattle.mdb_surveyor.specs.Summaries.{summary_of}
use Rattle.mdb_surveyor.specs.Surveyor.{StandsFor, rows_of}
use Rattle.mdb_page.specs.Lines as texts
use Rattle.mdb_page.specs.Surveys.{EndsSo, no_row, too_long, unread}
use Rattle.mdb_page.specs.inner.Surveying.{AreLater, EndsWith, HasListed, HasSurveyed, StopsFor}
use Rattle.mdb_page.specs.declared.lines.LineFault.TheVariants.{BadRow, Unread}
use Rattle.mdb_page.specs.declared.sheet.PageText.{PageText}
use Rattle.mdb_page.specs.declared.survey.Stop.{Stop}
use Rattle.mdb_page.specs.declared.survey.Stop.TheVariants.{Text, Line, TooLong, NoRoom}
use Rattle.mdb_page.proofs.Walks.{IsFaultOf}

-- what is known of the lines that were read
abbrev pub Reads : Surveyor → FaultListing → List PageFault → PageLines → List ℕ → List ℕ
    → Surveyor → FaultListing → List PageFault → PageLines → Type 0
Reads first before none empty text rest surveyor listing faults written =
    (scope : Scope) (skip : ℕ) → StandsFor first scope [] []
    → HasListed text skip [] before none empty
    → HasSurveyed scope text rest skip surveyor listing faults written

-- before the first line
pub starts : {scope : Scope} {skip : ℕ} {surveyor : Surveyor} {listing : FaultListing}
    {faults : List PageFault} {lines : PageLines} {text : List ℕ} → rows_of surveyor ≡ 0
    → StandsFor surveyor scope [] [] → HasListed text skip [] listing faults lines
    → HasSurveyed scope text text skip surveyor listing faults lines
starts none stands listed = record {
  rows = [];
  read = texts.start;
  ended = [];
  stands = stands;
  counted = none;
  listed = listed;
}

-- The lines of a text go on.
module _ {scope : Scope} {text rest : List ℕ} {skip : ℕ} {surveyor : Surveyor}
    {listing : FaultListing} {faults : List PageFault} {lines : PageLines}
    (has : HasSurveyed scope text rest skip surveyor listing faults lines) where
  -- a line without bytes
  pub goes_on_blank : {after : List ℕ} → IsLine rest [] after
      → HasSurveyed scope text after skip surveyor listing faults lines
  goes_on_blank line = record {
    rows = has.rows;
    read = texts.blank has.read line;
    ended = has.ended;
    stands = has.stands;
    counted = has.counted;
    listed = has.listed;
  }

  module _ {bare after : List ℕ} {event : Event} {next : Surveyor} (line : IsLine rest bare after)
      (tells : TellsRow bare event) (counted : rows_of next ≡ rows_of surveyor + 1) where
    -- a row that goes on with the stretch
    pub goes_on_row : ((rows : List Event) (ended : List Ended)
        → StandsFor surveyor scope rows ended → StandsFor next scope (rows ++ event ∷ []) ended)
        → HasSurveyed scope text after skip next listing faults lines
    goes_on_row takes = record {
      rows = has.rows ++ event ∷ [];
      read = texts.row event has.read line tells;
      ended = has.ended;
      stands = takes has.rows has.ended has.stands;
      counted = omega (arith, counted, has.counted, length-append has.rows (event ∷ []));
      listed = has.listed;
    }

    -- a row that is a fault
    pub goes_on_fault : {more : FaultListing} {longer : List PageFault} {later : PageLines}
        {it : Ended} → ((rows : List Event) (ended : List Ended)
        → StandsFor surveyor scope rows ended
        → StandsFor next scope (rows ++ event ∷ []) (it ∷ ended))
        → it.fault.row ≡ rows_of next → length rest ≤ listing.bytes
        → ((skip : ℕ) (earlier : List Ended) → HasListed text skip earlier listing faults lines
        → IsPlace listing.bytes text it.fault.row (listing.bytes - length rest)
        → HasListed text skip (it ∷ earlier) more longer later)
        → HasSurveyed scope text after skip next more longer later
    goes_on_fault {it = it} takes row few lists = record {
      rows = has.rows ++ event ∷ [];
      read = texts.row event has.read line tells;
      ended = it ∷ has.ended;
      stands = takes has.rows has.ended has.stands;
      counted = omega (arith, counted, has.counted, length-append has.rows (event ∷ []));
      listed = lists skip has.ended has.listed (record {
        rows = has.rows;
        rest = rest;
        read = has.read;
        event = event;
        next = record { bare = bare; after = after; line = line; is = tells };
        number = omega (arith, row, counted, has.counted);
        before = omega (arith, few);
      });
    }

-- so many faults are passed over
passed_over : {body : List ℕ} {skip : ℕ} {ended : List Ended} {listing : FaultListing}
    {faults : List PageFault} {lines : PageLines}
    (has : HasListed body skip ended listing faults lines)
    → length has.passed ≡ min skip (length ended)
passed_over {skip = skip} {ended = ended} {listing = listing} has =
    by_left listing.skip has.left has.none
  where
    whole : length ended ≡ length has.later + (length has.shown + length has.passed)
    whole = ap length has.parts ∙ length-append has.later (has.shown ++ has.passed)
        ∙ ap (λ n. length has.later + n) (length-append has.shown has.passed)

    by_left : (left : ℕ) → length has.passed + left ≡ skip
        → (left ≢ 0 → (has.later ≡ []) × (has.shown ≡ []))
        → length has.passed ≡ min skip (length ended)
    by_left zero all none =
        let more : skip ≤ length ended = omega (arith, whole, all) in
        omega (arith, all, min-eq_left more)
    by_left (suc left) all none =
        let nothing = none (λ zero. omega (arith, zero)) in
        let same : length has.passed ≡ length ended =
        omega (arith, whole, ap length nothing.0, ap length nothing.1) in
        let fewer : length ended ≤ skip = omega (arith, same, all) in
        same ∙ sym (min-eq_right fewer)

later_ones : (full : Bool) (room : ℕ) (later shown : List Ended) → AreLater full room later shown
    → (later ≡ []) ⊎ HasNoRoom room later shown
later_ones true room later shown rest = inr rest
later_ones false room later shown rest = inl rest

-- the number of all faults, as the summary has it
all_faults : (ended : List Ended) (last : Stretch) (summary : Summary)
    → summary ≡ summary_of ended last → summary.faults.all ≡ length ended
all_faults ended last summary is =
    ap (λ s. s.faults.all) is ∙ length-map ended (λ it. it.fault) ∙ refl

module _ (rows : List Event) (last : Stretch) (rest : List ℕ) (row fault : ℕ) (text : List ℕ)
    (number : ℕ) where
  -- all lines were read
  ends_whole : (ended : List Ended) → IsWhole rows ended last rest row text
      → (length ended ≡ 0 → number ≡ 0) → (length ended ≢ 0 → number ≡ 1)
      → EndsSo rows ended last rest row fault text number
  ends_whole [] whole none some = rw (none refl) (faultless whole refl)
  ends_whole (it ∷ earlier) whole none some = rw (some (λ no. omega (arith, no)))
      (faulty whole (λ no. let bad : it ∷ earlier ≡ [] = no in absurd (cc bad)))

  ends_so : (stop : Stop) (ended : List Ended) (summary : Summary) (count : ℕ)
      → count ≡ length rows → summary ≡ summary_of ended last → StopsFor stop rest count
      → EndsWith stop last summary count row fault text number
      → EndsSo rows ended last rest row fault text number
  ends_so Text ended summary count counted is stops ends =
      let all = all_faults ended last summary is in
      ends_whole ended (record {
        all = stops.0;
        number = ends.1 ∙ counted;
        few = rw ends.1 stops.1;
        is = ends.0.is ∙ ap (λ s. stretch_text last ++ summary_text s) is;
      }) (λ none. ends.0.faultless (all ∙ none))
      (λ some. ends.0.faulty (λ none. some (sym all ∙ none)))
  ends_so (Line (BadRow why)) ended summary count counted is stops ends = rw ends.3 (no_row why
      (record { number = ends.1 ∙ ap (λ n. n + 1) counted; is = ends.0 })
      (omega (arith, ends.1, stops.1)) stops.0 ends.2)
  ends_so (Line Unread) ended summary count counted is stops ends = rw ends.2 (unread
      (record { number = ends.1 ∙ ap (λ n. n + 1) counted; is = ends.0 })
      (omega (arith, ends.1, stops.1)) stops.0.1 stops.0.2)
  ends_so TooLong ended summary count counted is stops ends = rw ends.2 (too_long
      (record { number = ends.1 ∙ ap (λ n. n + 1) counted; is = ends.0 })
      stops.0.1 (ends.1 ∙ ap (λ n. n + 1) stops.1))
  ends_so NoRoom ended summary count counted is stops ends = absurd ends

-- what is known where a line is no row
pub stops_at_line : {rest bare after : List ℕ} (count : ℕ) (fault : LineFault)
    → IsLine rest bare after → bare ≢ [] → count < ROWS_MAX → IsFaultOf bare fault
    → StopsFor (Line fault) rest count
stops_at_line {bare = bare} {after = after} count (BadRow why) line some few is = (
  record { bare = bare; after = after; line = line; some = some; is = is.0 why refl },
  few,
)
stops_at_line {bare = bare} {after = after} count Unread line some few is =
    ((bare, record { after = after; line = line; some = some }, is.1 refl), few)

-- Where a survey has an answer with a text, the lines of all faults had room.
pub had_room : (stop : Stop) (last : Stretch) (summary : Summary) (count row fault : ℕ)
    (text : List ℕ) (number : ℕ) → EndsWith stop last summary count row fault text number
    → stop ≢ NoRoom
had_room stop last summary count row fault text number ends is = rw is at ends

-- A survey ends.
pub surveyed : {scope : Scope} {text body rest : List ℕ} {skip : ℕ} {surveyor : Surveyor}
    {listing : FaultListing} {faults : List PageFault} {lines : PageLines} (stop : Stop)
    (last : Stretch) (summary : Summary) (count : ℕ) (told : PageTold) (answer : PageText)
    (number : ℕ) → IsUnmarked text body
    → (has : HasSurveyed scope body rest skip surveyor listing faults lines)
    → StopsFor stop rest (rows_of surveyor)
    → IsSurvey scope has.rows has.ended last × (summary ≡ summary_of has.ended last)
    → count ≡ rows_of surveyor
    → EndsWith stop last summary count told.row told.fault (written answer) number
    → told.offset + length rest ≡ length text → listing.bytes ≡ length text
    → told.acts ≡ summary.faults.all → told.news ≡ length has.listed.shown
    → IsSurveyed scope text skip faults lines told answer number
surveyed {body = body} {rest = rest} {listing = listing} {faults = faults} {lines = lines} stop last
    summary count told answer number bare has stops is counted ends offset size acts news =
    let listed = has.listed in
    record {
      body = body;
      unmarked = bare;
      rows = has.rows;
      rest = rest;
      read = has.read;
      offset = offset;
      ended = has.ended;
      last = last;
      survey = is.0;
      ends = ends_so has.rows last rest told.row told.fault (written answer) number stop has.ended
          summary count (counted ∙ has.counted) is.1 (rw counted stops) ends;
      all = acts ∙ all_faults has.ended last summary is.1;
      shown = listed.shown;
      are = record {
        later = listed.later;
        passed = listed.passed;
        parts = listed.parts;
        count = passed_over listed;
        rest = later_ones listing.is_full (length faults) listed.later listed.shown listed.rest;
      };
      count = news;
      listed = subst (λ n. AreListed n body listed.shown faults lines) size listed.listed;
    }
