-- What the survey is, by how the reading of rows ended.
use Rattle.mdb_survey.proofs.Words.{BadRow, Ended, Err, Event, HasAddedEnd, HasAddedLast, HasFaultLines, HasLines, HasStopped, HasSurveyed, IfErr, IsNotTaken, IsOfOutput, IsSurvey, IsSurveying, LeadInto, LineForm, List, Memory, Ok, Output, Puts, PutsSurveying, ROWS_MAX, Read, Result, RunFault, Scope, Stretch, Summary, Surveyor, TooLong, Write, append_assoc, arith, break_both, inl, inr, length, lines_of, not_taken_of_output, put_both, refl, rows_of, summary_of, ℕ, ◌++◌, ◌+◌, ◌-◌, ◌∙◌, ◌∷◌, ◌≡◌, ◌≤◌}
use Rattle.mdb_surveyor.specs.Surveyor.{StandsFor}
use Rattle.mdb_verdict.specs.Ending.{FindsUpTo, IsStop}
use Rattle.mdb_verdict.specs.Unanswered.{IsTakenInPart, IsUnanswered}
use Rattle.mdb_verdict.specs.Verdict.{AreRead, IsStopped, IsTakenWhole}
use Rattle.mdb_writing.specs.Output.{Breaks}
use Rattle.mdb_verdict.proofs.Ends.{drawn, drawn_in_part, part_of_whole, whole_as}
use Rattle.mdb_words.specs.Refusals.{IsRefusal}
use Rattle.mdb_words.specs.Row.{IsRow}
use Rattle.mdb_verdict.proofs.Rows.{read_before, read_with}
use Rattle.mdb_survey.proofs.NoRows.{NoneAreReached}
use Rattle.mdb_survey.proofs.Surveys.{lead_into}

module _ (form : LineForm) (scope : Scope) (all : List (List (List ℕ))) where
  -- the lines of faults alone are those of a part of the records
  part_of : {rows : List Event} {rest : List (List (List ℕ))} (ended : List Ended)
      → AreRead IsRow all rows rest → LeadInto scope rows ended
      → IsTakenInPart IsRow (λ rows. HasFaultLines form scope rows (lines_of form ended)) all
  part_of {rest = rest} ended read lead =
      let before = read_before IsRow all lead.front lead.rest rest (rw lead.parts at read) in
      record {
        rows = lead.front;
        rest = before.after ++ before.rest;
        read = before.read;
        has = record { ended = ended; last = lead.last; survey = lead.survey; lines = refl };
      }

  module _ (surveyor : Surveyor) (before now : Output) where
    -- memory is refused
    pub out_of_memory : NoneAreReached → (read : ℕ)
        → IsTakenInPart IsRow (HasSurveyed form scope surveyor before now) all
        → PutsSurveying form scope all read before now (Err Memory)
    out_of_memory law read it = inl (
      lines_of form it.has.ended,
      part_of it.has.ended it.read
          (lead_into law scope surveyor it.rows it.has.ended it.has.stands),
      it.has.written,
    )

    -- The text ends.
    module _ (read : ℕ) (later : Output)
        (it : IsTakenWhole IsRow (HasSurveyed form scope surveyor before now) ROWS_MAX all) where
      whole_by : (answer : Result Summary RunFault)
          (adds : HasAddedEnd form surveyor now later answer) (summary : Summary)
          → summary ≡ adds.summary
          → IsSurveying form scope all read (Ok summary)
          (lines_of form it.has.ended ++ form.stretch adds.last ++ form.summary adds.summary)
      whole_by answer adds summary is =
          let both = adds.survey scope it.rows it.has.ended it.has.stands in
          whole_as it (record {
            ended = it.has.ended;
            last = adds.last;
            survey = both.0;
            comes_to = is ∙ both.1;
            lines = rw is;
          })

      pub whole : NoneAreReached → (answer : Result Summary RunFault)
          → HasAddedEnd form surveyor now later answer
          → PutsSurveying form scope all read before later answer
      whole law (Ok summary) adds = inl (
        lines_of form it.has.ended ++ form.stretch adds.last ++ form.summary adds.summary,
        whole_by (Ok summary) adds summary adds.told,
        rw (append_assoc (lines_of form it.has.ended) (form.stretch adds.last)
            (form.summary adds.summary)) (put_both before now later (lines_of form it.has.ended)
            (form.stretch adds.last ++ form.summary adds.summary) it.has.written adds.added),
      )
      whole law (Err Write) adds = inr (
        refl,
        record {
          answer = Ok adds.summary;
          text = lines_of form it.has.ended ++ form.stretch adds.last ++ form.summary adds.summary;
          is = whole_by (Err Write) adds adds.summary refl;
          broken = rw (append_assoc (lines_of form it.has.ended) (form.stretch adds.last)
              (form.summary adds.summary)) (break_both before now later
              (lines_of form it.has.ended) (form.stretch adds.last ++ form.summary adds.summary)
              it.has.written adds.refused);
        },
      )
      whole law (Err Memory) adds =
          rw adds.refused (out_of_memory law read (part_of_whole it))
      whole law (Err fault) adds = absurd adds.refused

    -- The reading ended at a fault that isn't want of memory.
    module _ (start found : ℕ) (fault : RunFault) (not : fault ≡ Memory → ⊥)
        (ended : IsUnanswered IsRow IsRefusal (HasSurveyed form scope surveyor before now) ROWS_MAX
        all fault) (most : FindsUpTo fault (start + rows_of surveyor) found) where
      -- some rows were taken
      taken : (fault : RunFault)
          → IsUnanswered IsRow IsRefusal (HasSurveyed form scope surveyor before now) ROWS_MAX all
          fault → IsTakenInPart IsRow (HasSurveyed form scope surveyor before now) all
      taken (BadRow row fault) it =
          record { rows = it.rows; rest = it.fields ∷ it.rest; read = it.read; has = it.has }
      taken TooLong it =
          record { rows = it.rows; rest = it.fields ∷ it.rest; read = it.read; has = it.has }
      taken Read it = it
      taken Memory it = it
      taken Write it = absurd it

      -- with the lines of the stretch that runs this is the answer
      module _ {later : Output} {answer : Result Unit RunFault}
          (adds : HasAddedLast form surveyor now later answer) (Also : List ℕ → Type 0)
          (also : (ended : List Ended) → Puts before now (lines_of form ended)
          → Also (lines_of form ended ++ form.stretch adds.last)) where
        with_last : (rows : List Event) → HasSurveyed form scope surveyor before now rows
            → (text : List ℕ) × HasLines form scope rows text × Also text
        with_last rows has = (
          lines_of form has.ended ++ form.stretch adds.last,
          record {
            ended = has.ended;
            last = adds.last;
            survey = adds.survey scope rows has.ended has.stands;
            lines = refl;
          },
          also has.ended has.written,
        )

        answered : (text : List ℕ) × IsSurveying form scope all (found - start) (Err fault) text
            × Also text
        answered = by fault not ended most
          where
            by : (fault : RunFault) → (fault ≡ Memory → ⊥)
                → IsUnanswered IsRow IsRefusal (HasSurveyed form scope surveyor before now)
                ROWS_MAX all fault → FindsUpTo fault (start + rows_of surveyor) found
                → (text : List ℕ) × IsSurveying form scope all (found - start) (Err fault) text
                × Also text
            by (BadRow row fault) not it most = drawn
                (λ text rows. HasLines form scope rows text) Also with_last IsRow
                IsRefusal ROWS_MAX all (BadRow row fault) it
            by TooLong not it most =
                drawn (λ text rows. HasLines form scope rows text) Also with_last IsRow IsRefusal
                ROWS_MAX all TooLong it
            by Read not it most = drawn_in_part {Has = HasSurveyed form scope surveyor before now}
                (λ text rows. (found - start ≤ length rows) × HasLines form scope rows text) Also
                (λ rows has. let (text, lines, put) = with_last rows has in
                (text, (omega (arith, has.counted, most), lines), put)) it
            by Write not it most = absurd it
            by Memory not it most = absurd (not refl)

      -- the lines of the stretch that runs are added
      pub told_with_last : (later : Output) (done : Unit)
          → HasAddedLast form surveyor now later (Ok done)
          → PutsSurveying form scope all (found - start) before later (Err fault)
      told_with_last later done adds = inl (answered adds (Puts before later) (λ ended written.
          put_both before now later (lines_of form ended) (form.stretch adds.last) written
          adds.added))

      -- they aren't taken
      pub last_refused : NoneAreReached → (later : Output) (other : RunFault)
          → HasAddedLast form surveyor now later (Err other)
          → PutsSurveying form scope all (found - start) before later (Err other)
      last_refused law later Write adds =
          let it = answered adds (Breaks before later) (λ ended written.
          break_both before now later (lines_of form ended) (form.stretch adds.last) written
          adds.refused) in
          inr (refl, record { answer = Err fault; text = it.0; is = it.1; broken = it.2 })
      last_refused law later Memory adds =
          rw adds.refused (out_of_memory law (found - start) (taken fault ended))
      last_refused law later other adds = absurd adds.refused

  -- The lines of a fault and its stretch aren't taken.
  pub lines_untaken : (read : ℕ) (before now : Output) (fault : RunFault)
      → IsStopped IsRow (λ rows row. HasStopped form scope before now rows row fault) ROWS_MAX all
      → PutsSurveying form scope all read before now (Err fault)
  lines_untaken read before now Write it = inr (
    refl,
    record {
      answer = Err Memory;
      text = lines_of form it.stops.0;
      is = part_of it.stops.0 (read_with IsRow it.read it.told) it.stops.1;
      broken = it.stops.2;
    },
  )
  lines_untaken read before now Memory it =
      inl (lines_of form it.stops.0, part_of it.stops.0 it.read it.stops.1, it.stops.2)
  lines_untaken read before now fault it = absurd it.stops

-- the same, where the lines of the whole are refused
pub end_refused : (form : LineForm) (surveyor : Surveyor) (now later : Output) (last : Stretch)
    (summary : Summary)
    → ((scope : Scope) (rows : List Event) (ended : List Ended)
    → StandsFor surveyor scope rows ended
    → IsSurvey scope rows ended last × (summary ≡ summary_of ended last)) → (fault : RunFault)
    → IsNotTaken fault now later (form.stretch last ++ form.summary summary)
    → HasAddedEnd form surveyor now later (Err fault)
end_refused form surveyor now later last summary survey fault not_taken = record {
  last = last;
  summary = summary;
  survey = survey;
  told = tt;
  added = tt;
  refused = not_taken;
}

-- A fault of what is added is one of the output.

pub end_of_output : (form : LineForm) (surveyor : Surveyor) (before after : Output)
    (answer : Result Summary RunFault) → HasAddedEnd form surveyor before after answer
    → IfErr answer IsOfOutput
end_of_output form surveyor before after (Ok summary) adds = tt
end_of_output form surveyor before after (Err fault) adds =
    not_taken_of_output fault before after (form.stretch adds.last ++ form.summary adds.summary)
    adds.refused

pub last_of_output : (form : LineForm) (surveyor : Surveyor) (before after : Output)
    (fault : RunFault) → HasAddedLast form surveyor before after (Err fault) → IsOfOutput fault
last_of_output form surveyor before after fault adds =
    not_taken_of_output fault before after (form.stretch adds.last) adds.refused

pub stop_of_output : (form : LineForm) (scope : Scope) (before after : Output) (fault : RunFault)
    → IsStop (HasStopped form scope before after) fault → IsOfOutput fault
stop_of_output form scope before after Write stopped = tt
stop_of_output form scope before after Memory stopped = tt
stop_of_output form scope before after fault stopped = absurd stopped.2
