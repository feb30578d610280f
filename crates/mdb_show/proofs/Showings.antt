-- What the showing is, by how the reading of rows ended.
use Rattle.mdb_show.proofs.Words.{AreRead, BadRow, Err, Event, HasAdded, HasLines, HasShown, HasStopped, HasTakenOrStoppedAt, IsAdded, IsNotTaken, IsOfOutput, IsRow, IsShowingIn, IsShownWholeIn, IsStop, IsStopped, IsTakenWhole, IsUnanswered, LineForm, Lines, LinkFault, List, Memory, None, Ok, Option, Output, Puts, PutsShowing, ROWS_MAX, Read, Result, RunFault, Scope, Some, StandsFor, TooLong, Write, [], ap, arith, begun, break_both, closed_pieces, cut_text, inl, inr, length, lines_of, output, put_begun, put_both, refl, scope_of, sym, ℕ, ◌++◌, ◌∙◌, ◌≡◌}
use Rattle.mdb_words.specs.Refusals.{IsRefusal}
use Rattle.std.specs.Result.{result_transpose}
use Rattle.mdb_verdict.proofs.Ends.{drawn, part_of_whole, stopped_as, whole_as}
use Rattle.mdb_verdict.proofs.Rows.{read_with}
use Rattle.mdb_show.proofs.LinesSoFar.{its_list}
use Rattle.mdb_show.proofs.ShowTexts.{all_shown}

-- before the first row
pub begins : (form : LineForm) (scope : Scope) (lines : Lines) (page : List ℕ)
    → scope_of lines.bus ≡ scope → StandsFor lines.bus [] → lines.rows ≡ 0 → lines.shown ≡ 0
    → page ≡ []
    → (contents : Option (List ℕ))
    → HasShown form scope lines (begun contents) (output contents page) []
begins form scope lines page is stands no_rows none empty contents =
    record {
      in_scope = is;
      pieces = [];
      stands = stands;
      are = refl;
      counted = sym no_rows;
      closed = sym none;
      few = omega (arith, none);
      written = put_begun contents page empty;
    }

-- The lines of a row are added, or it is stopped at.
pub added : (form : LineForm) (scope : Scope) (lines : Lines) (before after : Output)
    (rows : List Event) (row : Event) (answer : Result (Option LinkFault) RunFault)
    (stop : Option (Result LinkFault RunFault)) → stop ≡ result_transpose answer
    → HasAdded form scope lines before after rows row answer
    → HasTakenOrStoppedAt (HasShown form scope lines before after)
    (HasStopped form scope lines before after) rows row stop
added form scope lines before after rows row (Ok None) stop is adds = rw is adds
added form scope lines before after rows row answer stop is adds = rw is adds

module _ (form : LineForm) (scope : Scope) (all : List (List (List ℕ))) (lines : Lines)
    (before now : Output) where
  -- the lines of rows that were taken
  has_lines : (rows : List Event) → HasShown form scope lines before now rows → (text : List ℕ)
      × HasLines form scope rows text × Puts before now text
  has_lines rows has = (
    lines_of form (closed_pieces has.pieces),
    record { pieces = has.pieces; list = its_list has; lines = refl },
    has.written,
  )

  -- all records are shown, with the line of a tail
  whole_showing : (ended : IsTakenWhole IsRow (HasShown form scope lines before now) ROWS_MAX all)
      → IsShownWholeIn form scope all
      (lines_of form (closed_pieces ended.has.pieces) ++ cut_text form lines.shown lines.rows)
  whole_showing ended =
      let has = ended.has in
      whole_as ended (record {
        pieces = has.pieces;
        list = its_list has;
        lines = rw (
          all_shown form (scope_of lines.bus) has.pieces has.stands.in_order,
          has.closed,
          ap length has.are ∙ has.counted,
        );
      })

  -- the text ends
  pub whole : (later : Output)
      → IsTakenWhole IsRow (HasShown form scope lines before now) ROWS_MAX all
      → Puts now later (cut_text form lines.shown lines.rows)
      → PutsShowing form scope all before later (Ok None)
  whole later ended cut = inl (
    lines_of form (closed_pieces ended.has.pieces) ++ cut_text form lines.shown lines.rows,
    whole_showing ended,
    put_both before now later (lines_of form (closed_pieces ended.has.pieces))
        (cut_text form lines.shown lines.rows) ended.has.written cut,
  )

  -- a record isn't taken, or can't be read
  pub refused_by : (fault : RunFault)
      → IsUnanswered IsRow IsRefusal (HasShown form scope lines before now) ROWS_MAX all fault
      → PutsShowing form scope all before now (Err fault)
  refused_by fault ended = inl
      (drawn (λ text rows. HasLines form scope rows text) (Puts before now) has_lines
      IsRow IsRefusal ROWS_MAX all fault ended)

  -- the line of a tail isn't put there
  pub untaken : (later : Output)
      → IsTakenWhole IsRow (HasShown form scope lines before now) ROWS_MAX all
      → (fault : RunFault) → IsNotTaken fault now later (cut_text form lines.shown lines.rows)
      → PutsShowing form scope all before later (Err fault)
  untaken later ended Write not_taken = inr (
    refl,
    record {
      answer = Ok None;
      text = lines_of form (closed_pieces ended.has.pieces)
          ++ cut_text form lines.shown lines.rows;
      is = whole_showing ended;
      broken = break_both before now later (lines_of form (closed_pieces ended.has.pieces))
          (cut_text form lines.shown lines.rows) ended.has.written not_taken;
    },
  )
  untaken later ended Memory not_taken =
      rw not_taken (refused_by Memory (part_of_whole ended))
  untaken later ended fault not_taken = absurd not_taken

-- Where a row is stopped at.
module _ (form : LineForm) (scope : Scope) (all : List (List (List ℕ))) where
  -- lines of rows that were read are those of a part of the records
  part_showing : {rows : List Event} {rest : List (List (List ℕ))} → AreRead IsRow all rows rest
      → {text : List ℕ} → HasLines form scope rows text
      → IsShowingIn form scope all (Err Memory) text
  part_showing {rows = rows} {rest = rest} read its =
      record { rows = rows; rest = rest; read = read; has = its }

  -- a text that the row may come to is one of the records
  showing_of : {Stops : List Event → Event → Type 0} (ended : IsStopped IsRow Stops ROWS_MAX all)
      (text : List ℕ) → IsAdded form scope ended.rows ended.row text
      → (answer : Result (Option LinkFault) RunFault) × IsShowingIn form scope all answer text
  showing_of ended text (inl part) =
      (Err Memory, part_showing (read_with IsRow ended.read ended.told) part)
  showing_of ended text (inr (fault, its)) = (Ok (Some fault), stopped_as ended its)

  module _ (lines : Lines) (before after : Output) where
    -- a row breaks a rule of the link
    pub at_fault : (fault : LinkFault) → IsStopped IsRow
        (λ rows row. HasStopped form scope lines before after rows row (Ok fault)) ROWS_MAX all
        → PutsShowing form scope all before after (Ok (Some fault))
    at_fault fault ended =
        let (text, its, written) = ended.stops in inl (text, stopped_as ended its, written)

    -- a line isn't taken
    pub untaken_by : (fault : RunFault) → IsStopped IsRow
        (λ rows row. HasStopped form scope lines before after rows row (Err fault)) ROWS_MAX all
        → PutsShowing form scope all before after (Err fault)
    untaken_by Write ended =
        let (text, added, broken) = ended.stops in
        let would = showing_of ended text added in
        inr (refl, record { answer = would.0; text = text; is = would.1; broken = broken })
    untaken_by Memory ended =
        let (text, its, written) = ended.stops in
        inl (text, part_showing ended.read its, written)
    untaken_by fault ended = absurd ended.stops

-- A fault at a row is one of the output.
module _ (form : LineForm) (scope : Scope) (lines : Lines) (before after : Output) where
  added_of_output : (rows : List Event) (row : Event) (fault : RunFault)
      → HasAdded form scope lines before after rows row (Err fault) → IsOfOutput fault
  added_of_output rows row Write added = tt
  added_of_output rows row Memory added = tt
  added_of_output rows row fault added = absurd added

  pub stop_of_output : (stop : Result LinkFault RunFault) (fault : RunFault)
      → IsStop (HasStopped form scope lines before after) stop → stop ≡ Err fault
      → IsOfOutput fault
  stop_of_output stop fault stopped is =
      added_of_output stopped.0 stopped.1 fault (rw is at stopped.2)
