-- The records that are still to come, one after the other.
use Rattle.mdb_records.proofs.Words.{◌≡◌, ◌≤◌, ◌<◌, ◌+◌, ◌⊎◌, inl, inr, ℕ, zero, suc, List, [], ◌∷◌, ◌++◌, length, Option, Some, None, true, false, refl, ap, subst, arith, ◌∙◌, Read, ends_at_end, is_end, next_record, step, AreRecords, Reached, default_config, records, records_from, records_next, State, Gives, HasMark}
use Rattle.csv.specs.declared.parser.State.TheVariants as st
use Rattle.mdb_records.proofs.MarkedRecords.{AreBytes, chosen, cut-some, marked-none, marked-some}
use Rattle.mdb_records.proofs.StepFacts.{plain-between, step-steps, is_plain}

-- after a record no other has begun, and its bytes are gone: one at least where it began there
pub record Ends (s : State) (xs : List ℕ) (p : Read) : Type 0 where
  pub between : ends_at_end p.1 ≡ false
  pub no_more : length p.2 ≤ length xs
  pub fewer : ends_at_end s ≡ false → length p.2 < length xs

pub record-ends : (s : State) (fields : List (List ℕ)) (field xs : List ℕ) (p : Read)
    → is_plain s ≡ true → next_record default_config s fields field xs ≡ Some p → Ends s xs p
unfolding next_record
record-ends s fields field [] p plain e =
    elim (chosen (ends_at_end s) _ _ p e) [
      | inl q ↦ rw (← q.1) record { between = refl; no_more = omega arith; fewer = λ no. cc }
      | inr q ↦ cc
    ]
record-ends s fields field (c ∷ xs) p plain e =
    let steps = step-steps s c plain in
    elim (chosen (is_end (step default_config s c).1) _ _ p e) [
      | inl q ↦ rw (← q.1)
          record { between = steps.ends q.0; no_more = omega arith; fewer = λ no. omega arith }
      | inr q ↦
          let rest = record-ends (step default_config s c).0 _ _ xs p steps.plain q.1 in record {
            between = rest.between;
            no_more = omega (arith, rest.no_more);
            fewer = λ no. omega (arith, rest.no_more);
          }
    ]

-- the records of a text, found one after the other
are-records_from : (n : ℕ) (s : State) (xs : List ℕ) → ends_at_end s ≡ false → length xs < n
    → AreRecords default_config s xs (records_from default_config n s xs)
unfolding records_from Reached
are-records_from zero s xs between fits = absurd (omega arith)
are-records_from (suc n) s xs between fits =
    by (next_record default_config s [] [] xs) refl (λ t ys. are-records_from n t ys)
  where
    by : (o : Option Read) → next_record default_config s [] [] xs ≡ o
        → ((t : State) (ys : List ℕ) → ends_at_end t ≡ false → length ys < n
        → AreRecords default_config t ys (records_from default_config n t ys))
        → AreRecords default_config s xs (records_next (records_from default_config n) o)
    by None e more = (s, xs, (refl, refl), e)
    by (Some p) e more =
        let ends = record-ends s [] [] xs p (plain-between s between) e in
        let rest = more p.1 p.2 ends.between (omega (arith, ends.fewer between)) in
        (rest.0, rest.1, (p, e, refl, rest.2), rest.3)

-- `records` gives all the records of a text
pub are-records : (text : List ℕ)
    → AreRecords default_config st.StartRecord text (records default_config text)
are-records text = are-records_from (length text + 1) st.StartRecord text refl (omega arith)

-- the first of the records of a text
first-record : (s : State) (text : List ℕ) (p : Read) (rows : List (List (List ℕ)))
    → next_record default_config s [] [] text ≡ Some p
    → AreRecords default_config s text rows
    → (rest : List (List (List ℕ))) × (rows ≡ p.0 ∷ rest) × AreRecords default_config p.1 p.2 rest
unfolding Reached
first-record s text p [] e h =
    let last = h.3 in
    let same : next_record default_config s [] [] text ≡ None = rw (h.2.0, h.2.1) last in
    cc
first-record s text p (row ∷ rest) e h =
    let first : h.2.0 ≡ p = cc (h.2.1) in (
      rest,
      ap (λ (r : List (List ℕ)). r ∷ rest) (h.2.2 ∙ ap (λ (r : Read). r.0) first),
      subst (λ (r : Read). AreRecords default_config r.1 r.2 rest) first (h.0, h.1, h.2.3, h.3),
    )

-- a text with no next record has none
no-record : (s : State) (text : List ℕ) (rows : List (List (List ℕ)))
    → next_record default_config s [] [] text ≡ None
    → AreRecords default_config s text rows → rows ≡ []
unfolding Reached
no-record s text [] e h = refl
no-record s text (row ∷ rest) e h = cc (h.2.1)

-- the end of a line before a record is skipped
pub after-line : (text : List ℕ)
    → next_record default_config st.StartRecord [] [] (10 ∷ text)
    ≡ next_record default_config st.StartRecord [] [] text
unfolding next_record
after-line text = refl

-- so it adds no record to a text
pub are-records-after_line : (text : List ℕ) (rows : List (List (List ℕ)))
    → AreRecords default_config st.StartRecord text rows
    → AreRecords default_config st.StartRecord (10 ∷ text) rows
unfolding Reached
are-records-after_line text [] h =
    (st.StartRecord, 10 ∷ text, (refl, refl), after-line text ∙ rw (h.2.0, h.2.1) h.3)
are-records-after_line text (row ∷ rest) h =
    (h.0, h.1, (h.2.0, after-line text ∙ h.2.1, h.2.2, h.2.3), h.3)

-- what the next record of a text leaves, where a part of the text was given
pub record Follows (s : State) (text given : List ℕ) (p : Read)
    (rows : List (List (List ℕ))) : Type 0 where
  pub rest : List (List (List ℕ))
  pub left : List ℕ
  pub first : rows ≡ p.0 ∷ rest
  pub gives : (p.2 ≡ left) ⊎ HasMark left p.2
  pub between : ends_at_end p.1 ≡ false
  pub all : AreRecords default_config p.1 left rest

-- a record of bytes that was read from what is given is the first of the records to come
pub gives-some : (s : State) (text given : List ℕ) (p : Read) (rows : List (List (List ℕ)))
    → Gives text given → ends_at_end s ≡ false → AreBytes p.0
    → next_record default_config s [] [] given ≡ Some p → AreRecords default_config s text rows
    → Follows s text given p rows
gives-some s text given p rows h between bytes e all =
    let plain = plain-between s between in
    let after = (record-ends s [] [] given p plain e).between in
    elim h [
      | inl same ↦
          let step = first-record s text p rows (rw same at e) all in
          record {
            rest = step.0;
            left = p.2;
            first = step.1;
            gives = inl refl;
            between = after;
            all = step.2;
          }
      | inr (inl m) ↦
          let found = marked-some s [] [] m.0 m.1 p plain (rw m.3 at e) bytes in
          let step = first-record s text (p.0, p.1, found.0 ++ m.1) rows (rw m.2 found.2) all in
          record {
            rest = step.0;
            left = found.0 ++ m.1;
            first = step.1;
            gives = inr (found.0, m.1, refl, found.1);
            between = after;
            all = step.2;
          }
      | inr (inr m) ↦ absurd (cut-some s [] [] m.0 m.1 p plain m.2 (rw m.3 at e) bytes)
    ]

-- the end of what is given is the end of the records to come
pub gives-none : (s : State) (text given : List ℕ) (rows : List (List (List ℕ))) → Gives text given
    → ends_at_end s ≡ false
    → next_record default_config s [] [] given ≡ None → AreRecords default_config s text rows
    → rows ≡ []
gives-none s text given rows h between e all =
    let plain = plain-between s between in
    elim h [
      | inl same ↦ no-record s text rows (rw same at e) all
      | inr (inl m) ↦ absurd (marked-none s [] [] m.0 m.1 plain (rw m.3 at e))
      | inr (inr m) ↦ absurd (marked-none s [] [] m.0 m.1 plain (rw m.3 at e))
    ]
