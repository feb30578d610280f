-- The records of a text are surveyed in one way.
use Rattle.mdb_survey.proofs.Words.{BadRow, Ended, Err, Event, HasAllLines, HasLines, IsSurvey, IsSurveying, LineForm, List, Memory, Ok, ROWS_MAX, Read, Result, RunFault, Scope, Stretch, Summary, TooLong, Write, [], ap₂, length, lines_of, refl, summary_of, sym, ℕ, ◌++◌, ◌∙◌, ◌∷◌, ◌≡◌, ◌≤◌}
use Rattle.mdb_words.specs.Refusals.{IsRefusal}
use Rattle.mdb_words.specs.Row.{IsRow}
use Rattle.mdb_verdict.specs.Unanswered.{IsUnanswered}
use Rattle.mdb_verdict.proofs.Ends.{drawn, drawn_in_part, whole_as}
use Rattle.mdb_verdict.proofs.OneAnswer.{Ending, SaysOne, of_unanswered, of_whole, one_ending}
use Rattle.mdb_verdict.specs.Telling.{IsOwnAnswer}

-- rows have at most one survey
abbrev pub HaveOneSurvey : Scope → Type 0
HaveOneSurvey scope = (rows : List Event) (one other : List Ended) (last also : Stretch)
    → IsSurvey scope rows one last → IsSurvey scope rows other also
    → (one ≡ other) × (last ≡ also)

module _ (scope : Scope) (law : HaveOneSurvey scope) where
  -- of all rows their summary is said
  abbrev Says : List Event → List (List (List ℕ)) → Summary → Type 0
  Says rows [] summary = (ended : List Ended) × (last : Stretch) × IsSurvey scope rows ended last
      × (summary ≡ summary_of ended last)
  Says rows (fields ∷ after) summary = ⊥

  abbrev Any : List Event → Type 0
  Any rows = Unit {0}

  says_one : SaysOne Says ROWS_MAX Any
  says_one = record {
    fronts = λ rows more any. tt;
    one = one;
    stops = λ rows fields after said says. absurd says;
  }
    where
      one : (rows : List Event) (rest : List (List (List ℕ))) (a b : Summary) → Says rows rest a
          → Says rows rest b → a ≡ b
      one rows [] a b p q =
          let same = law rows p.0 q.0 p.1 q.1 p.2 q.2 in
          p.3 ∙ (ap₂ summary_of same.0 same.1 ∙ sym q.3)
      one rows (fields ∷ after) a b p q = absurd p

  module _ (form : LineForm) (records : List (List (List ℕ))) where
    -- the text of an answer, by its rows
    abbrev Lines : List Event → Result Summary RunFault → List ℕ → Type 0
    Lines rows (Ok summary) text = HasAllLines form scope summary rows text
    Lines rows (Err fault) text = HasLines form scope rows text

    -- it is one
    one_text : (rows : List Event) (answer : Result Summary RunFault) (s t : List ℕ)
        → Lines rows answer s → Lines rows answer t → s ≡ t
    one_text rows (Ok summary) s t one other =
        let same = law rows one.ended other.ended one.last other.last one.survey other.survey in
        one.lines ∙ (ap₂ (λ (e : List Ended) (l : Stretch).
        lines_of form e ++ form.stretch l ++ form.summary summary) same.0 same.1 ∙ sym other.lines)
    one_text rows (Err fault) s t one other =
        let same = law rows one.ended other.ended one.last other.last one.survey other.survey in
        one.lines ∙ (ap₂ (λ (e : List Ended) (l : Stretch). lines_of form e ++ form.stretch l)
        same.0 same.1 ∙ sym other.lines)

    record Surveyed (answer : Result Summary RunFault) (text : List ℕ) : Type 0 where
      ending : Ending Says ROWS_MAX Any records answer
      lines : Lines ending.rows answer text

    unanswered : (fault : RunFault) (text : List ℕ)
        → IsUnanswered IsRow IsRefusal (λ rows. HasLines form scope rows text) ROWS_MAX records
        fault → IsOwnAnswer {Answer = Summary} (Err fault) → Surveyed (Err fault) text
    unanswered fault text is own =
        let it = of_unanswered Says ROWS_MAX Any {Has = λ rows. HasLines form scope rows text}
        (λ rows has. tt) fault is own in
        record { ending = it.0; lines = it.1 }

    surveyed : (read : ℕ) (answer : Result Summary RunFault) (text : List ℕ)
        → IsSurveying form scope records read answer text → IsOwnAnswer answer
        → Surveyed answer text
    surveyed read (Ok summary) text is own = record {
      ending = of_whole Says ROWS_MAX Any is tt
          (is.has.ended, is.has.last, is.has.survey, is.has.comes_to);
      lines = is.has;
    }
    surveyed read (Err (BadRow row fault)) text is own = unanswered (BadRow row fault) text is own
    surveyed read (Err TooLong) text is own = unanswered TooLong text is own
    surveyed read (Err fault) text is own = absurd own

    -- the survey of a text is one
    pub one_surveying : (read more : ℕ) (a b : Result Summary RunFault) (s t : List ℕ)
        → IsSurveying form scope records read a s → IsSurveying form scope records more b t
        → IsOwnAnswer a → IsOwnAnswer b → (a ≡ b) × (s ≡ t)
    one_surveying read more a b s t p q own also =
        let one = surveyed read a s p own in
        let other = surveyed more b t q also in
        let ends = one_ending says_one one.ending other.ending in (
          ends.1,
          one_text other.ending.rows b s t (rw ends.1 at (rw ends.0 at one.lines)) other.lines,
        )

-- and so it is in each form
module _ (form other : LineForm) (scope : Scope) (records : List (List (List ℕ))) where
  other_lines : (text : List ℕ) (rows : List Event) → HasLines form scope rows text
      → (same : List ℕ) × HasLines other scope rows same × Unit {0}
  other_lines text rows has = (
    lines_of other has.ended ++ other.stretch has.last,
    record { ended = has.ended; last = has.last; survey = has.survey; lines = refl },
    tt,
  )

  in_other : (fault : RunFault) (text : List ℕ)
      → IsUnanswered IsRow IsRefusal (λ rows. HasLines form scope rows text) ROWS_MAX records fault
      → (same : List ℕ)
      × IsUnanswered IsRow IsRefusal (λ rows. HasLines other scope rows same) ROWS_MAX records fault
  in_other fault text is =
      let it = drawn {Has = λ rows. HasLines form scope rows text}
      (λ same rows. HasLines other scope rows same) (λ same. Unit {0}) (other_lines text)
      IsRow IsRefusal ROWS_MAX records fault is in (it.0, it.1)

  pub in_other_form : (read : ℕ) (answer : Result Summary RunFault) (text : List ℕ)
      → IsSurveying form scope records read answer text
      → (same : List ℕ) × IsSurveying other scope records read answer same
  in_other_form read (Ok summary) text is =
      let its = is.has in (
        lines_of other its.ended ++ other.stretch its.last ++ other.summary summary,
        whole_as is (record {
          ended = its.ended;
          last = its.last;
          survey = its.survey;
          comes_to = its.comes_to;
          lines = refl;
        }),
      )
  in_other_form read (Err (BadRow row fault)) text is = in_other (BadRow row fault) text is
  in_other_form read (Err TooLong) text is = in_other TooLong text is
  in_other_form read (Err Read) text is =
      let it = drawn_in_part {Has = λ rows. (read ≤ length rows) × HasLines form scope rows text}
      (λ same rows. (read ≤ length rows) × HasLines other scope rows same) (λ same. Unit {0})
      (λ rows has. let (same, lines, done) = other_lines text rows has.1 in
      (same, (has.0, lines), done)) is in (it.0, it.1)
  in_other_form read (Err Memory) text is =
      let its = is.has in (
        lines_of other its.ended,
        record {
          rows = is.rows;
          rest = is.rest;
          read = is.read;
          has = record { ended = its.ended; last = its.last; survey = its.survey; lines = refl };
        },
      )
  in_other_form read (Err Write) text is = absurd is
