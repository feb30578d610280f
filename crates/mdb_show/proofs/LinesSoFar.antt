-- How far the lines of rows have come, row by row.
use Rattle.mdb_show.proofs.Words.{Act, ArePieces, Err, Event, HasAdded, HasFaultLine, HasLines, HasPieces, HasShown, IsActList, IsAdded, IsLinkFault, IsNotTaken, LineForm, Lines, LinkFault, List, Memory, NamesAReply, None, Ok, Output, Piece, Puts, RunFault, Scope, Some, StandsFor, Whole, Write, [], ap, arith, break_both, closed_pieces, ended_text, events_of, inl, inr, length, length-append, lines_of, piece_events, put_both, refl, scope_of, sym, ℕ, ◌++◌, ◌+◌, ◌∙◌, ◌∷◌, ◌≡◌}
use Rattle.mdb_bus.specs.declared.bus.Bus.{Bus}
use Rattle.mdb_bus.specs.Bus.{GoesOn}
use Rattle.mdb_bus.proofs.Breaks.{whole_of}
use Rattle.mdb_show.proofs.ShowTexts.{ends_act, goes_on_closed}

module _ {form : LineForm} {scope : Scope} {before now : Output} where
  -- the rows so far have their act list
  abbrev pub its_list : {lines : Lines} {rows : List Event}
      (has : HasShown form scope lines before now rows) → IsActList scope has.pieces rows
  its_list has = record { in_order = rw has.in_scope at has.stands.in_order; whole = has.are }

  -- a row that ends no act is shown
  pub row_shown : {old new : Lines} {rows : List Event} {event : Event}
      (has : HasShown form scope old before now rows) → new.rows ≡ old.rows + 1
      → new.shown ≡ old.shown → scope_of new.bus ≡ scope_of old.bus
      → GoesOn new.bus has.pieces event None
      → HasShown form scope new before now (rows ++ event ∷ [])
  row_shown {new = new} {rows = rows} {event = event} has more same kept gone =
      let closed = goes_on_closed (scope_of new.bus) has.pieces gone.longer event gone.grown
      gone.stands.in_order in
      record {
        in_scope = kept ∙ has.in_scope;
        pieces = gone.longer;
        stands = gone.stands;
        are = gone.rows ∙ ap (λ l. l ++ event ∷ []) has.are;
        counted = omega (arith, length-append rows (event ∷ []), has.counted, more);
        closed = rw (closed, same) has.closed;
        few = omega (arith, has.few, more, same);
        written = rw closed has.written;
      }

  -- the lines with those of an act that a row ends
  act_lines : {lines : Lines} {rows : List Event} {event : Event} {act : Act} {next : Bus}
      (has : HasShown form scope lines before now rows) → scope_of next ≡ scope_of lines.bus
      → (gone : GoesOn next has.pieces event (Some act))
      → ArePieces scope gone.longer × (closed_pieces gone.longer ≡ gone.longer)
      × (lines_of form gone.longer ≡ lines_of form (closed_pieces has.pieces)
      ++ ended_text form lines.shown lines.rows act)
  act_lines {lines = lines} {event = event} {act = act} has kept gone =
      let order : ArePieces scope gone.longer = rw (kept ∙ has.in_scope) at gone.stands.in_order in
      let added = ends_act form scope has.pieces gone.longer event act lines.shown lines.rows
      gone.grown (rw has.in_scope at has.stands.in_order) order has.closed
      (ap length has.are ∙ has.counted) in
      (order, added.0, added.1)

  -- a row that ends an act is shown, whose lines are written
  pub act_shown : {old new : Lines} {later : Output} {rows : List Event} {event : Event} {act : Act}
      (has : HasShown form scope old before now rows) → new.rows ≡ old.rows + 1
      → new.shown ≡ old.rows + 1 → scope_of new.bus ≡ scope_of old.bus
      → GoesOn new.bus has.pieces event (Some act)
      → Puts now later (ended_text form old.shown old.rows act)
      → HasShown form scope new before later (rows ++ event ∷ [])
  act_shown {old = old} {later = later} {rows = rows} {event = event} {act = act} has more all kept
      gone lines =
      let added = act_lines has kept gone in
      let are : events_of gone.longer ≡ rows ++ event ∷ [] =
      gone.rows ∙ ap (λ l. l ++ event ∷ []) has.are in
      let counted : length (rows ++ event ∷ []) ≡ old.rows + 1 =
      length-append rows (event ∷ []) ∙ ap (λ n. n + 1) has.counted in
      record {
        in_scope = kept ∙ has.in_scope;
        pieces = gone.longer;
        stands = gone.stands;
        are = are;
        counted = counted ∙ sym more;
        closed = ap (λ l. length (events_of l)) added.1 ∙ (ap length are ∙ (counted ∙ sym all));
        few = omega (arith, more, all);
        written = rw (added.1, added.2) (put_both before now later
            (lines_of form (closed_pieces has.pieces)) (ended_text form old.shown old.rows act)
            has.written lines);
      }

-- the reply of the act that a row ends is one
pub names : (bus next : Bus) (event : Event) (act : Act) → HasPieces bus
    → ((scope : Scope) (act : Act) (events : List Event) (pieces : List Piece)
    → ArePieces scope (Whole act events ∷ pieces) → NamesAReply act)
    → ((pieces : List Piece) → StandsFor bus pieces → GoesOn next pieces event (Some act))
    → NamesAReply act
names bus next event act stands law on =
    let gone : GoesOn next stands.0 event (Some act) = on stands.0 stands.1 in
    let newest = gone.grown.newest in
    law (scope_of next) act (piece_events newest) gone.grown.earlier
    (rw (whole_of newest act gone.grown.ends) at (rw gone.grown.are at gone.stands.in_order))

-- A line isn't taken.
module _ {form : LineForm} {scope : Scope} {lines : Lines} {before now : Output}
    {rows : List Event} {event : Event} (has : HasShown form scope lines before now rows)
    (left : Lines) (later : Output) where
  -- a text isn't put after the lines so far
  line_untaken : (text : List ℕ)
      → IsAdded form scope rows event (lines_of form (closed_pieces has.pieces) ++ text)
      → (fault : RunFault) → IsNotTaken fault now later text
      → HasAdded form scope left before later rows event (Err fault)
  line_untaken text added Write not_taken = (
    lines_of form (closed_pieces has.pieces) ++ text,
    added,
    break_both before now later (lines_of form (closed_pieces has.pieces)) text has.written
        not_taken,
  )
  line_untaken text added Memory not_taken = (
    lines_of form (closed_pieces has.pieces),
    record { pieces = has.pieces; list = its_list has; lines = refl },
    rw not_taken has.written,
  )
  line_untaken text added fault not_taken = absurd not_taken

  -- The row breaks a rule of the link.
  module _ (fault : LinkFault)
      (faults : IsLinkFault (scope_of lines.bus) has.pieces event fault.rule fault.blame) where
    -- the lines so far and its own
    fault_line : HasFaultLine form scope rows event fault
        (lines_of form (closed_pieces has.pieces) ++ form.fault (lines.rows + 1) fault)
    fault_line = record {
      pieces = has.pieces;
      list = its_list has;
      is = rw has.in_scope at faults;
      lines = rw has.counted;
    }

    pub fault_added : Puts now later (form.fault (lines.rows + 1) fault)
        → HasAdded form scope left before later rows event (Ok (Some fault))
    fault_added line = (
      lines_of form (closed_pieces has.pieces) ++ form.fault (lines.rows + 1) fault,
      fault_line,
      put_both before now later (lines_of form (closed_pieces has.pieces))
          (form.fault (lines.rows + 1) fault) has.written line,
    )

    -- its line isn't put there
    pub fault_refused : (refused : RunFault)
        → IsNotTaken refused now later (form.fault (lines.rows + 1) fault)
        → HasAdded form scope left before later rows event (Err refused)
    fault_refused refused not_taken =
        line_untaken (form.fault (lines.rows + 1) fault) (inr (fault, fault_line)) refused not_taken

  -- the lines of its act aren't put there
  pub act_refused : {next : Bus} (act : Act) → scope_of next ≡ scope_of lines.bus
      → GoesOn next has.pieces event (Some act) → (refused : RunFault)
      → IsNotTaken refused now later (ended_text form lines.shown lines.rows act)
      → HasAdded form scope left before later rows event (Err refused)
  act_refused act kept gone refused not_taken =
      let added = act_lines has kept gone in
      line_untaken (ended_text form lines.shown lines.rows act) (inl (record {
        pieces = gone.longer;
        list = record {
          in_order = added.0;
          whole = gone.rows ∙ ap (λ l. l ++ event ∷ []) has.are;
        };
        lines = sym (ap (lines_of form) added.1 ∙ added.2);
      })) refused not_taken
