-- How far the lines of some rows have come.
use Rattle.mdb_survey.proofs.Words.{Ended, Err, Event, HasStopped, HasSurveyed, IfErr, IsNotTaken, IsReached, LeadFrom, LeadInto, LineForm, List, Memory, Ok, OnOk, Option, Output, Puts, Result, RunFault, Scope, Surveyor, Write, [], arith, begun, break_both, ended_lines, first_place, length, length-append, lines_of, output, put_begun, put_both, refl, rows_of, stretch_at, subst, sym, ℕ, ◌++◌, ◌+◌, ◌∙◌, ◌∷◌, ◌≡◌}
use Rattle.std.specs.Result.{result_err}
use Rattle.mdb_surveyor.specs.Surveyor.{StandsFor}
use Rattle.mdb_verdict.specs.Ending.{HasTakenOrStoppedAt}
use Rattle.mdb_surveyor.proofs.Parts.{cut_at}
use Rattle.mdb_survey.proofs.NoRows.{NoneAreReached, is_report_on_none, report_on_none}

-- before the first row
pub begins : (form : LineForm) (scope : Scope) (surveyor : Surveyor) (page : List ℕ)
    → StandsFor surveyor scope [] [] → rows_of surveyor ≡ 0 → page ≡ []
    → (contents : Option (List ℕ))
    → HasSurveyed form scope surveyor (begun contents) (output contents page) []
begins form scope surveyor page stands none empty contents =
    record { ended = []; stands = stands; counted = none; written = put_begun contents page empty }

-- the rows up to the last fault that a surveyor stands for have a survey with its faults
pub lead_into : NoneAreReached → (scope : Scope) (surveyor : Surveyor) (rows : List Event)
    (ended : List Ended) → StandsFor surveyor scope rows ended → LeadInto scope rows ended
lead_into law scope surveyor rows ended stands =
    let reached : IsReached stands.place.scope [] =
    rw stands.followed_so at (law surveyor.follower stands.running stands.follows) in
    let cut = cut_at (first_place scope) rows [] ended stands.running stands.place stands.lead in
    record {
      front = cut.front;
      rest = cut.rest;
      parts = cut.parts;
      last = stretch_at stands.place (report_on_none stands.place.scope);
      survey = record {
        running = [];
        place = stands.place;
        lead = subst (LeadFrom (first_place scope) cut.front ended []) (sym cut.onward.1) cut.to;
        is = record { is = is_report_on_none stands.place.scope reached; begins = refl };
      };
    }

-- A row is surveyed.
module _ (form : LineForm) (scope : Scope) (old new : Surveyor) (before now : Output)
    (rows : List Event) (row : Event) (has : HasSurveyed form scope old before now rows)
    (counted : rows_of new ≡ rows_of old + 1) where
  -- it ends no stretch
  pub goes_on : ((scope : Scope) (rows : List Event) (ended : List Ended)
      → StandsFor old scope rows ended → StandsFor new scope (rows ++ row ∷ []) ended)
      → HasSurveyed form scope new before now (rows ++ row ∷ [])
  goes_on on = record {
    ended = has.ended;
    stands = on scope rows has.ended has.stands;
    counted = omega (arith, counted, has.counted, length-append rows (row ∷ []));
    written = has.written;
  }

  -- it ends one, whose lines are added or aren't taken
  pub ends_one : NoneAreReached → (later : Output) (it : Ended)
      → ((scope : Scope) (rows : List Event) (ended : List Ended)
      → StandsFor old scope rows ended → StandsFor new scope (rows ++ row ∷ []) (it ∷ ended))
      → (answer : Result Unit RunFault) (stop : Option RunFault) → stop ≡ result_err answer
      → OnOk answer (Puts now later (ended_lines form it))
      → IfErr answer (λ fault. IsNotTaken fault now later (ended_lines form it))
      → HasTakenOrStoppedAt (HasSurveyed form scope new before later)
      (HasStopped form scope before later) rows row stop
  ends_one law later it on (Ok done) stop is added refused = rw is (record {
    ended = it ∷ has.ended;
    stands = on scope rows has.ended has.stands;
    counted = omega (arith, counted, has.counted, length-append rows (row ∷ []));
    written = put_both before now later (lines_of form has.ended) (ended_lines form it)
        has.written added;
  })
  ends_one law later it on (Err Write) stop is added refused = rw is (
    it ∷ has.ended,
    lead_into law scope new (rows ++ row ∷ []) (it ∷ has.ended)
        (on scope rows has.ended has.stands),
    break_both before now later (lines_of form has.ended) (ended_lines form it) has.written
        refused,
  )
  ends_one law later it on (Err Memory) stop is added refused = rw is (
    has.ended,
    lead_into law scope old rows has.ended has.stands,
    rw refused has.written,
  )
  ends_one law later it on (Err fault) stop is added refused = absurd refused
