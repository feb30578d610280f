-- The records of a text have one answer of their own.
use Rattle.mdb_verdict.proofs.Words.{AreRead, AreRows, BadRow, Err, Event, IsAnswer, IsOwnAnswer, IsReached, IsRefusal, IsReport, IsRow, IsStopped, IsTakenWhole, IsUnanswered, List, No, Offence, Ok, Outcome, Report, Result, RowFault, RunFault, Scope, TooLong, Yes, [], ap, append-nil, append_assoc, arith, inl, inr, length, length-append, refl, sym, ℕ, ◌++◌, ◌+◌, ◌<◌, ◌∙◌, ◌∷◌, ◌≡◌, ◌≤◌, ◌⊎◌}
use Rattle.std.proofs.lemmas.Grind.{common_steps}
pub use Rattle.mdb_words.proofs.Rows.{row_not_refused, row_one}
use Rattle.mdb_follow.specs.Offences.{IsOffence}

-- the fields of each record
abbrev Records : Type 0
Records = List (List (List ℕ))

-- what the laws of runs say
pub record RunLaws (scope : Scope) : Type 0 where
  pub fronts : (rows more : List Event) → IsReached scope (rows ++ more) → IsReached scope rows
  pub one_report : (rows : List Event) (a b : Report) → IsReport scope rows a
      → IsReport scope rows b → a ≡ b
  pub one_offence : (rows : List Event) (row : Event) (a b : Offence) → IsOffence scope rows row a
      → IsOffence scope rows row b → a ≡ b

-- a record has one refusal
pub one_refusal : (fields : List (List ℕ)) (a b : RowFault) → IsRefusal fields a
    → IsRefusal fields b → a ≡ b
one_refusal fields a b p q = grind (arith, common_steps)

-- of two fronts of rows the longer one goes on after the shorter one, with a record that is a row
pub record GoesOn (rows longer : List Event) (rest : Records) : Type 0 where
  pub fields : List (List ℕ)
  pub after : Records
  pub event : Event
  pub more : List Event
  pub record_is : rest ≡ fields ∷ after
  pub row : IsRow fields event
  pub longer_is : longer ≡ rows ++ event ∷ more

-- after no rows
first_goes_on : (fields : List (List ℕ)) (after : Records) (event : Event) (more : List Event)
    {rest : Records} → rest ≡ fields ∷ after → IsRow fields event → GoesOn [] (event ∷ more) rest
first_goes_on fields after event more is row = record {
  fields = fields;
  after = after;
  event = event;
  more = more;
  record_is = is;
  row = row;
  longer_is = refl;
}

-- with one row more in front
one_more_in_front : {rows longer : List Event} {rest : Records} (event : Event)
    → GoesOn rows longer rest → GoesOn (event ∷ rows) (event ∷ longer) rest
one_more_in_front event on = record {
  fields = on.fields;
  after = on.after;
  event = on.event;
  more = on.more;
  record_is = on.record_is;
  row = on.row;
  longer_is = ap (λ es. event ∷ es) on.longer_is;
}

-- of two fronts of rows of the same records, either both are one, or one goes on after the other
pub compared : (done others rest left : Records) (rows events : List Event) → AreRows done rows
    → AreRows others events → done ++ rest ≡ others ++ left
    → ((rows ≡ events) × (rest ≡ left)) ⊎ (GoesOn rows events rest ⊎ GoesOn events rows left)
compared [] [] rest left [] [] told heard same = inl (refl, same)
compared [] (fields ∷ others) rest left [] (event ∷ events) told heard same =
    inr (inl (first_goes_on fields (others ++ left) event events same heard.0))
compared (fields ∷ done) [] rest left (event ∷ rows) [] told heard same =
    inr (inr (first_goes_on fields (done ++ rest) event rows (sym same) told.0))
compared (fields ∷ done) (first ∷ others) rest left (event ∷ rows) (other ∷ events) told heard
    same =
    let here : first ≡ fields = cc in
    rw (row_one fields other event (rw here at heard.0) told.0)
    (elim (compared done others rest left rows events told.1 heard.1 (cc)) [
      | inl both ↦ inl (ap (λ es. event ∷ es) both.0, both.1)
      | inr (inl on) ↦ inr (inl (one_more_in_front event on))
      | inr (inr on) ↦ inr (inr (one_more_in_front event on))
    ])
compared done others rest left rows events told heard same = absurd (search)

-- How the reading of records ends, where `Says` is what may be said of the rest after rows, and
-- `Can` which rows are taken.
module _ {Said : Type 0} (Says : List Event → Records → Said → Type 0) (limit : ℕ) where
  -- what is said, or the record that isn't taken
  abbrev pub EndsBy : List Event → Records → Result Said RunFault → Type 0
  EndsBy rows rest (Ok said) = Says rows rest said
  EndsBy rows (fields ∷ after) (Err (BadRow number fault)) =
      IsRefusal fields fault × (length rows < limit) × (number ≡ length rows + 1)
  EndsBy rows (fields ∷ after) (Err TooLong) = length rows ≡ limit
  EndsBy rows rest (Err fault) = ⊥

  module _ (Can : List Event → Type 0) where
    pub record Ending (records : Records) (answer : Result Said RunFault) : Type 0 where
      pub rows : List Event
      pub rest : Records
      pub read : AreRead IsRow records rows rest
      pub can : Can rows
      pub few : length rows ≤ limit
      pub by : EndsBy rows rest answer

    module _ {records : Records} where
      -- so a reading ends with the text, at a row, and without an answer
      abbrev pub of_whole : {Has : List Event → Type 0} {said : Said}
          (is : IsTakenWhole IsRow Has limit records) → Can is.rows → Says is.rows [] said
          → Ending records (Ok said)
      of_whole is can says = record {
        rows = is.rows;
        rest = [];
        read = record { done = records; split = sym (append-nil records); told = is.told };
        can = can;
        few = is.few;
        by = says;
      }

      abbrev pub of_stop : {Stops : List Event → Event → Type 0} {said : Said}
          (is : IsStopped IsRow Stops limit records) → Can is.rows
          → Says is.rows (is.fields ∷ is.rest) said → Ending records (Ok said)
      of_stop is can says = record {
        rows = is.rows;
        rest = is.fields ∷ is.rest;
        read = is.read;
        can = can;
        few = omega (arith, is.few);
        by = says;
      }

      pub of_unanswered : {Has : List Event → Type 0} → ((rows : List Event) → Has rows → Can rows)
          → (fault : RunFault) → IsUnanswered IsRow IsRefusal Has limit records fault
          → IsOwnAnswer {Answer = Said} (Err fault)
          → (ending : Ending records (Err fault)) × Has ending.rows
      of_unanswered can (BadRow number fault) is own = (
        record {
          rows = is.rows;
          rest = is.fields ∷ is.rest;
          read = is.read;
          can = can is.rows is.has;
          few = omega (arith, is.few);
          by = (is.refused, is.few, is.number);
        },
        is.has,
      )
      of_unanswered can TooLong is own = (
        record {
          rows = is.rows;
          rest = is.fields ∷ is.rest;
          read = is.read;
          can = can is.rows is.has;
          few = omega (arith, is.full);
          by = is.full;
        },
        is.has,
      )
      of_unanswered can fault is own = absurd own

    -- One thing may be said of a rest. Where it has a record, that is a row which cannot be.
    pub record SaysOne : Type 0 where
      pub fronts : (rows more : List Event) → Can (rows ++ more) → Can rows
      pub one : (rows : List Event) (rest : Records) (a b : Said) → Says rows rest a
          → Says rows rest b → a ≡ b
      pub stops : (rows : List Event) (fields : List (List ℕ)) (after : Records) (said : Said)
          → Says rows (fields ∷ after) said → (row : Event) × IsRow fields row
          × (length rows < limit) × (Can (rows ++ row ∷ []) → ⊥)

module _ {Said : Type 0} {Says : List Event → Records → Said → Type 0} {limit : ℕ}
    {Can : List Event → Type 0} (laws : SaysOne Says limit Can) where
  -- no row goes on there
  stops : (rows : List Event) (fields : List (List ℕ)) (after : Records)
      (answer : Result Said RunFault) → EndsBy Says limit rows (fields ∷ after) answer
      → (event : Event) → IsRow fields event → Can (rows ++ event ∷ []) → length rows < limit → ⊥
  stops rows fields after (Ok said) ends event row can few =
      let stop = laws.stops rows fields after said ends in
      stop.3 (rw (row_one fields event stop.0 row stop.1) at can)
  stops rows fields after (Err (BadRow number fault)) ends event row can few =
      row_not_refused fields event fault row ends.0
  stops rows fields after (Err TooLong) ends event row can few = omega (arith, ends, few)
  stops rows fields after (Err fault) ends event row can few = ends

  -- nothing is said of a record that isn't taken
  no_fault : (rows : List Event) (rest : Records) (said : Said) (fault : RunFault)
      → Says rows rest said → EndsBy Says limit rows rest (Err fault) → ⊥
  no_fault rows (fields ∷ after) said (BadRow number fault) says ends =
      let stop = laws.stops rows fields after said says in
      row_not_refused fields stop.0 fault stop.1 ends.0
  no_fault rows (fields ∷ after) said TooLong says ends =
      let stop = laws.stops rows fields after said says in omega (arith, stop.2, ends)
  no_fault rows rest said fault says ends = ends

  one_fault : (rows : List Event) (rest : Records) (a b : RunFault)
      → EndsBy Says limit rows rest (Err a) → EndsBy Says limit rows rest (Err b) → a ≡ b
  one_fault rows (fields ∷ after) (BadRow m a) (BadRow n b) p q =
      cc (p.2, q.2, one_refusal fields a b p.0 q.0)
  one_fault rows (fields ∷ after) TooLong TooLong p q = refl
  one_fault rows rest a b p q = absurd (first_of (search, omega arith))

  -- such an end is one
  one_end : (rows : List Event) (rest : Records) (a b : Result Said RunFault)
      → EndsBy Says limit rows rest a → EndsBy Says limit rows rest b → a ≡ b
  one_end rows rest (Ok a) (Ok b) p q = ap Ok (laws.one rows rest a b p q)
  one_end rows rest (Ok a) (Err b) p q = absurd (no_fault rows rest a b p q)
  one_end rows rest (Err a) (Ok b) p q = absurd (no_fault rows rest b a q p)
  one_end rows rest (Err a) (Err b) p q = ap Err (one_fault rows rest a b p q)

  -- of two endings none is after more rows
  no_longer : {records : Records} {a b : Result Said RunFault}
      (one : Ending Says limit Can records a) (other : Ending Says limit Can records b)
      → GoesOn one.rows other.rows one.rest → ⊥
  no_longer {a = a} one other on =
      let longer : other.rows ≡ (one.rows ++ on.event ∷ []) ++ on.more =
      on.longer_is ∙ sym (append_assoc one.rows (on.event ∷ []) on.more) in
      let long = length-append one.rows (on.event ∷ on.more) in
      stops one.rows on.fields on.after a (rw on.record_is at one.by) on.event on.row
      (laws.fronts (one.rows ++ on.event ∷ []) on.more (rw longer at other.can))
      (omega (arith, other.few, ap length on.longer_is, long))

  pub one_ending : {records : Records} {a b : Result Said RunFault}
      (one : Ending Says limit Can records a) (other : Ending Says limit Can records b)
      → (one.rows ≡ other.rows) × (a ≡ b)
  one_ending {a = a} {b = b} one other =
      elim (compared one.read.done other.read.done one.rest other.rest one.rows other.rows
      one.read.told other.read.told (sym one.read.split ∙ other.read.split)) [
        | inl same ↦ (
          same.0,
          one_end other.rows other.rest a b (rw (same.0, same.1) at one.by) other.by,
        )
        | inr (inl on) ↦ absurd (no_longer one other on)
        | inr (inr on) ↦ absurd (no_longer other one on)
      ]

module _ (scope : Scope) (laws : RunLaws scope) (limit : ℕ) where
  -- a report is said of all rows, an offence of the next one
  abbrev Says : List Event → Records → Outcome → Type 0
  Says rows [] (Yes report) = IsReport scope rows report
  Says rows (fields ∷ after) (No offence) = (row : Event) × IsRow fields row
      × (length rows < limit) × IsOffence scope rows row offence
  Says rows rest outcome = ⊥

  says_one : SaysOne Says limit (IsReached scope)
  says_one = record { fronts = laws.fronts; one = one; stops = stops_at }
    where
      one : (rows : List Event) (rest : Records) (a b : Outcome) → Says rows rest a
          → Says rows rest b → a ≡ b
      one rows [] (Yes a) (Yes b) p q = ap Yes (laws.one_report rows a b p q)
      one rows (fields ∷ after) (No a) (No b) p q =
          ap No (laws.one_offence rows p.0 a b p.3
          (rw (row_one fields q.0 p.0 q.1 p.1) at q.3))
      one rows rest a b p q = absurd (search)

      stops_at : (rows : List Event) (fields : List (List ℕ)) (after : Records) (said : Outcome)
          → Says rows (fields ∷ after) said → (row : Event) × IsRow fields row
          × (length rows < limit) × (IsReached scope (rows ++ row ∷ []) → ⊥)
      stops_at rows fields after (No offence) says = (says.0, says.1, says.2, says.3.not_reached)
      stops_at rows fields after (Yes report) says = absurd says

  module _ (records : Records) where
    ending : (answer : Result Outcome RunFault) → IsAnswer scope limit records answer
        → IsOwnAnswer answer → Ending Says limit (IsReached scope) records answer
    ending (Ok (Yes report)) is own =
        of_whole Says limit (IsReached scope) is is.has.0.reached is.has.0
    ending (Ok (No offence)) is own = of_stop Says limit (IsReached scope) is is.stops.reached
        (is.row, is.told, is.few, is.stops)
    ending (Err (BadRow number fault)) is own =
        (of_unanswered Says limit (IsReached scope) (λ rows reached. reached)
        (BadRow number fault) is own).0
    ending (Err TooLong) is own = (of_unanswered Says limit (IsReached scope)
        (λ rows reached. reached) TooLong is own).0
    ending (Err fault) is own = absurd own

    -- the answer to the records of a text is one
    pub one_answer : (a b : Result Outcome RunFault) → IsAnswer scope limit records a
        → IsAnswer scope limit records b → IsOwnAnswer a → IsOwnAnswer b → a ≡ b
    one_answer a b p q s t = (one_ending says_one (ending a p s) (ending b q t)).1
