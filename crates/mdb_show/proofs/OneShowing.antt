-- The records of a text are shown in one way.
use Rattle.mdb_show.proofs.Words.{ArePieces, Blame, Ending, Err, Event, HasActList, HasAllLines, HasFaultLine, HasLines, IsActList, IsLinkFault, IsOwnAnswer, IsRow, IsShowingIn, LineForm, LinkFault, List, None, Ok, Option, Piece, ROWS_MAX, Result, RowBreaks, Rule, RunFault, SaysOne, Scope, Some, [], ap, closed_pieces, events_of, length, lines_of, of_stop, of_unanswered, of_whole, one_ending, refl, row_one, situation_of, sym, ℕ, ◌++◌, ◌+◌, ◌<◌, ◌∙◌, ◌∷◌, ◌≡◌}
use Rattle.mdb_words.specs.Refusals.{IsRefusal}
use Rattle.mdb_verdict.proofs.Ends.{drawn, stopped_as, whole_as}

-- what the laws of the bus say
pub record BusLaws (scope : Scope) : Type 0 where
  pub fronts : (rows more : List Event) → HasActList scope (rows ++ more) → HasActList scope rows
  pub one_list : (rows : List Event) (one other : List Piece) → IsActList scope one rows
      → IsActList scope other rows → one ≡ other
  pub one_fault : (pieces : List Piece) (row : Event) (r s : Rule) (a b : Blame)
      → IsLinkFault scope pieces row r a → IsLinkFault scope pieces row s b → (r ≡ s) × (a ≡ b)
  pub stops : (pieces : List Piece) (row : Event) (broken : Rule) → ArePieces scope pieces
      → RowBreaks (situation_of scope pieces) row broken
      → HasActList scope (events_of pieces ++ row ∷ []) → ⊥

-- the pieces and the lines of a form are one
module _ (form : LineForm) (scope : Scope) (laws : BusLaws scope) where
  -- nothing is said of all rows, a fault of the next one
  abbrev Says : List Event → List (List (List ℕ)) → Option LinkFault → Type 0
  Says rows [] None = Unit {0}
  Says rows (fields ∷ after) (Some fault) = (row : Event) × IsRow fields row
      × (length rows < ROWS_MAX) × (pieces : List Piece) × IsActList scope pieces rows
      × IsLinkFault scope pieces row fault.rule fault.blame
  Says rows rest said = ⊥

  says_one : SaysOne Says ROWS_MAX (HasActList scope)
  says_one = record { fronts = laws.fronts; one = one; stops = stops }
    where
      one : (rows : List Event) (rest : List (List (List ℕ))) (a b : Option LinkFault)
          → Says rows rest a → Says rows rest b → a ≡ b
      one rows [] None None p q = refl
      one rows (fields ∷ after) (Some a) (Some b) p q =
          let row : q.0 ≡ p.0 = row_one fields q.0 p.0 q.1 p.1 in
          let list : q.3 ≡ p.3 = laws.one_list rows q.3 p.3 q.4 p.4 in
          let both = laws.one_fault p.3 p.0 a.rule b.rule a.blame b.blame p.5
          (rw (row, list) at q.5) in
          λ i. Some (record { rule = both.0 i; blame = both.1 i })
      one rows rest a b p q = absurd (search)

      stops : (rows : List Event) (fields : List (List ℕ)) (after : List (List (List ℕ)))
          (said : Option LinkFault) → Says rows (fields ∷ after) said → (row : Event)
          × IsRow fields row × (length rows < ROWS_MAX) × (HasActList scope (rows ++ row ∷ []) → ⊥)
      stops rows fields after (Some fault) says = (
        says.0,
        says.1,
        says.2,
        λ list. laws.stops says.3 says.0 says.5.first says.4.in_order says.5.rule.breaks
            (rw says.4.whole list),
      )
      stops rows fields after None says = absurd says

  -- the text of an answer, by its rows
  abbrev Lines : List Event → Result (Option LinkFault) RunFault → List ℕ → Type 0
  Lines rows (Ok None) text = HasAllLines form scope rows text
  Lines rows (Ok (Some fault)) text =
      (row : Event) × HasFaultLine form scope rows row fault text
  Lines rows (Err fault) text = HasLines form scope rows text

  -- it is one
  one_text : (rows : List Event) (answer : Result (Option LinkFault) RunFault) (s t : List ℕ)
      → Lines rows answer s → Lines rows answer t → s ≡ t
  one_text rows (Ok None) s t one other = one.lines ∙ (ap (lines_of form)
      (laws.one_list rows one.pieces other.pieces one.list other.list) ∙ sym other.lines)
  one_text rows (Ok (Some fault)) s t one other = one.1.lines
      ∙ (ap (λ pieces. lines_of form (closed_pieces pieces) ++ form.fault (length rows + 1) fault)
      (laws.one_list rows one.1.pieces other.1.pieces one.1.list other.1.list)
      ∙ sym other.1.lines)
  one_text rows (Err fault) s t one other = one.lines
      ∙ (ap (λ pieces. lines_of form (closed_pieces pieces))
      (laws.one_list rows one.pieces other.pieces one.list other.list) ∙ sym other.lines)

  module _ (records : List (List (List ℕ))) where
    record Shown (answer : Result (Option LinkFault) RunFault) (text : List ℕ) : Type 0 where
      ending : Ending Says ROWS_MAX (HasActList scope) records answer
      lines : Lines ending.rows answer text

    shown : (answer : Result (Option LinkFault) RunFault) (text : List ℕ)
        → IsShowingIn form scope records answer text → IsOwnAnswer answer → Shown answer text
    shown (Ok None) text is own = record {
      ending = of_whole Says ROWS_MAX (HasActList scope) is (is.has.pieces, is.has.list) tt;
      lines = is.has;
    }
    shown (Ok (Some fault)) text is own =
        let at = is.stops in
        record {
          ending = of_stop Says ROWS_MAX (HasActList scope) is (at.pieces, at.list)
              (is.row, is.told, is.few, at.pieces, at.list, at.is);
          lines = (is.row, at);
        }
    shown (Err fault) text is own =
        let it = of_unanswered Says ROWS_MAX (HasActList scope)
        {Has = λ rows. HasLines form scope rows text} (λ rows has. (has.pieces, has.list)) fault is
        own in
        record { ending = it.0; lines = it.1 }

    -- the showing of a text is one
    pub one_showing : (a b : Result (Option LinkFault) RunFault) (s t : List ℕ)
        → IsShowingIn form scope records a s → IsShowingIn form scope records b t
        → IsOwnAnswer a → IsOwnAnswer b → (a ≡ b) × (s ≡ t)
    one_showing a b s t p q own also =
        let one = shown a s p own in
        let other = shown b t q also in
        let ends = one_ending says_one one.ending other.ending in (
          ends.1,
          one_text other.ending.rows b s t (rw ends.1 at (rw ends.0 at one.lines)) other.lines,
        )

-- and so it is in each form
pub in_other_form : (form other : LineForm) (scope : Scope) (records : List (List (List ℕ)))
    (answer : Result (Option LinkFault) RunFault) (text : List ℕ)
    → IsShowingIn form scope records answer text
    → (same : List ℕ) × IsShowingIn other scope records answer same
in_other_form form other scope records (Ok None) text is = (
  lines_of other is.has.pieces,
  whole_as is (record { pieces = is.has.pieces; list = is.has.list; lines = refl }),
)
in_other_form form other scope records (Ok (Some fault)) text is =
    let at = is.stops in (
      lines_of other (closed_pieces at.pieces) ++ other.fault (length is.rows + 1) fault,
      stopped_as is (record { pieces = at.pieces; list = at.list; is = at.is; lines = refl }),
    )
in_other_form form other scope records (Err fault) text is =
    let it = drawn {Has = λ rows. HasLines form scope rows text}
    (λ same rows. HasLines other scope rows same) (λ same. Unit {0}) (λ rows has. (
      lines_of other (closed_pieces has.pieces),
      record { pieces = has.pieces; list = has.list; lines = refl },
      tt,
    )) IsRow IsRefusal ROWS_MAX records fault is in (it.0, it.1)
