-- The answer to the end of a recording that was answered with yes.
use Rattle.mdb_late_start.proofs.Words.{subst, ap, refl, sym, ◌∙◌, ◌≡◌, inl, inr, ℕ, List, [], ◌∷◌, ◌++◌, length, ◌≤◌, arith, Result, Ok, Err, append_assoc, length-append, Event, Setups, Rule, Scope, HasActList, IsLinkFault, Report, IsReached, MayBeReadAlone, TellsLevelsOfFront, joined_with, Blame, IsActList, Piece, IsYesOrByProfile, TellsRecordsOfFront}
use Rattle.mdb_words.specs.Row.{IsRow}
use Rattle.mdb_bus.specs.declared.fault.Rule.TheVariants as rule
use Rattle.mdb_follow.specs.declared.offence.Offence.{Offence}
use Rattle.mdb_follow.specs.Offences.{IsOffence}
use Rattle.mdb_text.specs.declared.outcome.Outcome.{Outcome}
use Rattle.mdb_text.specs.declared.outcome.Outcome.TheVariants.{Yes, No}
use Rattle.mdb_verdict.specs.declared.fault.RunFault.{RunFault}
use Rattle.mdb_verdict.specs.declared.fault.RunFault.TheVariants.{BadRow, TooLong}
use Rattle.mdb_verdict.specs.Telling.{IsOwnAnswer}
use Rattle.mdb_verdict.specs.Verdict.{AreRead, IsAnswer}
use Rattle.mdb_verdict.specs.Rows.{AreRows}
use Rattle.mdb_verdict.proofs.Headline.{one_list}
use Rattle.mdb_verdict.proofs.OneAnswer.{row_not_refused, row_one}
use Rattle.mdb_late_start.proofs.OpenFaults.{first_rows}

-- the rows of records in two parts
rows_in_two : (front end : List (List (List ℕ))) (rows : List Event) → AreRows (front ++ end) rows
    → (first : List Event) × (second : List Event) × (rows ≡ first ++ second)
    × AreRows front first × AreRows end second
rows_in_two [] end rows told = ([], rows, refl, tt, told)
rows_in_two (fields ∷ front) end [] told = absurd told
rows_in_two (fields ∷ front) end (event ∷ rows) told =
    let two = rows_in_two front end rows told.1 in
    (event ∷ two.0, two.1, ap (λ (l : List Event). event ∷ l) two.2, (told.0, two.3), two.4)

-- what is told as a record and more is a row and more
a_row : (fields : List (List ℕ)) (records : List (List (List ℕ))) (rows : List Event)
    → AreRows (fields ∷ records) rows
    → (event : Event) × (rest : List Event) × (rows ≡ event ∷ rest) × IsRow fields event
a_row fields records (event ∷ rest) told = (event, rest, refl, told.0)
a_row fields records [] told = absurd told

module _ (scope : Scope) (limit : ℕ) (front end : List (List (List ℕ))) where
  -- All records are rows that are reached, and some rows lead up to a record of the end.
  pub record GoesOn (rows : List Event) (fields : List (List ℕ)) : Type 0 where
    pub before : List Event
    pub event : Event
    pub rest : List Event
    pub of_front : AreRows front before
    pub of_end : AreRows end (rows ++ event ∷ rest)
    pub told : IsRow fields event
    pub few : length (before ++ (rows ++ event ∷ rest)) ≤ limit
    pub reached : IsReached scope (before ++ (rows ++ event ∷ rest))

  module _ (report : Report) (whole : IsAnswer scope limit (front ++ end) (Ok (Yes report)))
      (later : Scope) where
    goes_on : (rows : List Event) (fields : List (List ℕ)) (rest : List (List (List ℕ)))
        → AreRead IsRow end rows (fields ∷ rest) → GoesOn rows fields
    goes_on rows fields rest leads =
        let two = rows_in_two front end whole.rows whole.told in
        let its = rows_in_two leads.done (fields ∷ rest) two.1
        (subst (λ es. AreRows es two.1) leads.split two.4) in
        let row = a_row fields rest its.1 its.4 in
        let parts = its.2 ∙ ap (λ f. f ++ its.1)
        (one_list leads.done its.0 rows its.3 leads.told) ∙ ap (λ l. rows ++ l) row.2 in
        let all = two.2 ∙ ap (λ l. two.0 ++ l) parts in
        record {
          before = two.0;
          event = row.0;
          rest = row.1;
          of_front = two.3;
          of_end = rw parts at two.4;
          told = row.3;
          few = rw all at whole.few;
          reached = rw all at whole.has.0.reached;
        }

    -- the end's own answer is what a yes is, and what a no is
    end_says : (Says : Result Outcome RunFault → Type 0)
        → ((other : Report) → Says (Ok (Yes other)))
        → ((offence : Offence) (rows : List Event) (fields : List (List ℕ))
        (on : GoesOn rows fields) → IsOffence later rows on.event offence → Says (Ok (No offence)))
        → (answer : Result Outcome RunFault) → IsAnswer later limit end answer
        → IsOwnAnswer answer → Says answer
    end_says Says is_yes is_no (Ok (Yes other)) is own = is_yes other
    end_says Says is_yes is_no (Ok (No offence)) is own =
        let on = goes_on is.rows is.fields is.rest is.read in
        is_no offence is.rows is.fields on
        (rw (row_one is.fields is.row on.event is.told on.told) at is.stops)
    end_says Says is_yes is_no (Err (BadRow row fault)) is own =
        let on = goes_on is.rows is.fields is.rest is.read in
        absurd (row_not_refused is.fields on.event fault on.told is.refused)
    end_says Says is_yes is_no (Err TooLong) is own =
        let on = goes_on is.rows is.fields is.rest is.read in
        absurd (omega (
          arith,
          length-append on.before (is.rows ++ on.event ∷ on.rest),
          length-append is.rows (on.event ∷ on.rest),
          on.few,
          is.full,
        ))
    end_says Says is_yes is_no (Err fault) is own = absurd own

  -- where any first rows of reached ones are reached
  module _ (fronts : (scope : Scope) (rows more : List Event) → IsReached scope (rows ++ more)
      → IsReached scope rows) (report : Report)
      (whole : IsAnswer scope limit (front ++ end) (Ok (Yes report))) where
    -- so it is a yes, where the rows of the end are reached, as they are taken there (`later`)
    pub end_says_yes : (later : Scope)
        → ((rows ends : List Event) → AreRows front rows → AreRows end ends
        → IsReached scope (rows ++ ends) → IsReached later ends)
        → (answer : Result Outcome RunFault) → IsAnswer later limit end answer
        → IsOwnAnswer answer → (other : Report) × (answer ≡ Ok (Yes other))
    end_says_yes later reaches =
        end_says report whole later (λ answer. (other : Report) × (answer ≡ Ok (Yes other)))
        (λ other. (other, refl)) (λ offence rows fields on is.
        let reached = reaches on.before (rows ++ on.event ∷ on.rest) on.of_front on.of_end
        on.reached in
        absurd (is.not_reached (fronts later (rows ++ on.event ∷ []) on.rest
        (rw append_assoc reached))))

    -- By the extended profile it is a yes, or a no by Profile. `reaches` and `left_out` are laws of
    -- ends.
    module _ (setups : Setups)
        (reaches : (rows ends : List Event) → MayBeReadAlone scope setups rows ends
        → IsReached scope (rows ++ ends) → IsReached (joined_with setups scope) ends)
        (left_out : (before rows more : List Event) (row : Event) (pieces : List Piece)
        (broken : Rule) (blamed : Blame) → HasActList scope (before ++ (rows ++ row ∷ more))
        → TellsLevelsOfFront scope setups before (rows ++ row ∷ more)
        → IsActList (joined_with setups scope) pieces rows
        → IsLinkFault (joined_with setups scope) pieces row broken blamed
        → broken ≡ rule.Profile) (tells : TellsRecordsOfFront scope setups front end) where
      by_profile_alone : (offence : Offence) (rows : List Event) (fields : List (List ℕ))
          (on : GoesOn rows fields) → IsOffence (joined_with setups scope) rows on.event offence
          → offence.rule ≡ rule.Profile
      by_profile_alone offence rows fields on is = elim is.why [
        | inl link ↦ left_out on.before rows on.rest on.event link.pieces offence.rule offence.blame
            (on.reached.1.pieces, on.reached.1.act_list) known link.act_list link.fault
        | inr machine ↦ absurd (is.not_reached (reaches on.before now (inr (record {
          act_list = (_, machine.act_list);
          tells = first_rows scope setups on.before now on.rest (rw parts at known);
        })) (fronts scope (on.before ++ now) on.rest
            (rw (append_assoc on.before now on.rest) (rw parts at on.reached)))))
      ]
        where
          now : List Event
          now = rows ++ on.event ∷ []

          parts : rows ++ on.event ∷ on.rest ≡ now ++ on.rest
          parts = sym (append_assoc rows (on.event ∷ []) on.rest)

          known : TellsLevelsOfFront scope setups on.before (rows ++ on.event ∷ on.rest)
          known = tells on.before (rows ++ on.event ∷ on.rest) on.of_front on.of_end

      pub end_says_yes_or_profile : (answer : Result Outcome RunFault)
          → IsAnswer (joined_with setups scope) limit end answer → IsOwnAnswer answer
          → IsYesOrByProfile answer
      end_says_yes_or_profile =
          end_says report whole (joined_with setups scope) IsYesOrByProfile (λ other. tt)
          by_profile_alone
