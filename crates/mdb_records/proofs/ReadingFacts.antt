-- One read of a reader of records, as a step along the records to come.
use Rattle.mdb_records.proofs.Words.{◌≡◌, ◌<◌, ◌≤◌, ◌+◌, ◌-◌, ℕ, Bool, List, [], ◌∷◌, ◌++◌, ◌⊎◌, ap, length, take, drop, Option, Some, None, true, false, inl, inr, refl, ◌∙◌, All, IfSome, is_none, option_map, Keeps, Read, ends_at_end, next_record, AreRecords, ReadRecord, Reached, Ready, default_config, reader_headers, reader_state, records, strip_bom, took_first, Row, cut_from, fields_of, text_of, rows-end, rows-more, State, parted, ReadsWhatStands, given_of, mark, marked, TakesLine, Tells, line, lines_given, lines_remaining, ReadsNext, StandsAfter, StandsAt, fields_at, Advances, HasMark, IsOverLimit, IsUncut, ToCome, current_fields, Stage, All-take, All-drop, All-cons, All-nil}
use Rattle.std.proofs.lemmas.Bool.{cases_Bool}
use Rattle.csv.specs.Records as csv
use Rattle.csv.specs.declared.parser.State.TheVariants as st
use Rattle.csv.specs.declared.reader.Headers.{Headers}
use Rattle.csv.specs.declared.reader.Reader.{Reader}
use Rattle.mdb_records.specs.declared.Records.{Records}
use Rattle.mdb_records.specs.declared.lines.Lines.{Lines}
use Rattle.mdb_records.specs.declared.stage.Stage.TheVariants as stage
use Rattle.mdb_records.proofs.MarkGives.{gives-cons, gives-stripped, marked-within, stripped-over, whole}
use Rattle.mdb_records.proofs.MarkedRecords.{AreBytes, IsBytes, marked-none, marked-some}
use Rattle.mdb_records.proofs.RowFacts.{are-records, are-records-after_line, record-ends, gives-none, gives-some}
use Rattle.mdb_records.proofs.StepFacts.{plain-between}

-- a part of bytes, before others
part-more : (start end : ℕ) (bytes : List ℕ) (parts : List (List ℕ)) → IsBytes bytes
    → AreBytes parts → AreBytes (take (end - start) (drop start bytes) ∷ parts)
part-more start end bytes parts h more =
    All-cons (All (λ b. b < 256)) _ parts (All-take (λ b. b < 256) (end - start) _
    (All-drop (λ b. b < 256) start bytes h)) more

-- the fields of a record are cut from its bytes
AreBytes-cut_from : (start : ℕ) (ends bytes : List ℕ) → IsBytes bytes
    → AreBytes (cut_from start ends bytes)
unfolding cut_from
AreBytes-cut_from start [] bytes h = All-nil (All (λ b. b < 256))
AreBytes-cut_from start (end ∷ ends) bytes h =
    part-more start end bytes _ h (AreBytes-cut_from end ends bytes h)

-- so are the parts of a line
AreBytes-parted : (start : ℕ) (ends bytes : List ℕ) → IsBytes bytes
    → AreBytes (parted start ends bytes)
unfolding parted
AreBytes-parted start [] bytes h = All-nil (All (λ b. b < 256))
AreBytes-parted start (end ∷ ends) bytes h =
    part-more start end bytes _ h (AreBytes-parted (end + 1) ends bytes h)

-- the fields of a record whose bytes were seen
pub AreBytes-fields : (row : Row) (bytes : List ℕ) → bytes ≡ text_of row → All (λ b. b < 256) bytes
    → AreBytes (fields_of row)
AreBytes-fields row bytes e h = AreBytes-cut_from 0 row.ends row.bytes (rw e at h)

-- one record that was reached is the next one
only-record : (s : State) (given : List ℕ) (fields : List (List ℕ)) (after : State) (left : List ℕ)
    → Reached default_config s given (fields ∷ []) after left
    → next_record default_config s [] [] given ≡ Some (fields, after, left)
unfolding Reached
only-record s given fields after left h = rw (h.2, ← h.3.0, ← h.3.1) h.1

-- a line that was taken of what is known
line-taken : (given : List ℕ) (after : Option (List ℕ)) (fields : List (List ℕ))
    → TakesLine (Some given) after fields
    → (rest : List ℕ) × (after ≡ Some (10 ∷ rest))
    × (next_record default_config st.StartRecord [] [] given
    ≡ Some (fields, st.StartRecord, rest))
line-taken given None fields h = absurd h
line-taken given (Some y) fields h = (h.0, ap Some h.1, h.2)

-- bytes that are kept are known as before
kept-known : (given : List ℕ) (after : Option (List ℕ)) → Keeps (Some given) after
    → after ≡ Some given
kept-known given None h = absurd h
kept-known given (Some y) h = ap Some h

module _ {R : Type 0} (remaining : R → Option (List ℕ)) where
  module _ (value : Records R) (lines : Lines R) (limit : ℕ)
      (first : value.stage ≡ stage.Lines lines) where
    -- the records of the whole text are to come from a new reader
    pub new-to-come : (known : Option (List ℕ)) → value.fault ≡ None
        → lines_given remaining lines ≡ option_map strip_bom (given_of known limit None)
        → IfSome known (λ text. ToCome remaining value (records default_config (strip_bom text)))
    new-to-come None going source = tt
    new-to-come (Some text) going source = record {
      text = strip_bom text;
      given = strip_bom (marked limit text);
      state = st.StartRecord;
      going = going;
      between = refl;
      stands = rw first (refl, source);
      gives = gives-stripped limit text;
      all = are-records (strip_bom text);
    }

    -- a new reader of a text that is longer than the limit
    pub new-over : (known : Option (List ℕ)) → value.fault ≡ None
        → lines_given remaining lines ≡ option_map strip_bom (given_of known limit None)
        → IfSome known (λ text. limit < length text → IsOverLimit remaining value)
    new-over None going source = tt
    new-over (Some text) going source = λ long.
        let m = stripped-over limit text long in record {
          before = m.0;
          after = m.1;
          state = st.StartRecord;
          going = going;
          between = refl;
          stands = rw first (refl, source ∙ ap Some m.2);
        }

    -- a new reader of a text within the limit
    pub new-within : (known : Option (List ℕ))
        → lines_given remaining lines ≡ option_map strip_bom (given_of known limit None)
        → IfSome known (λ text. length text ≤ limit → IsUncut remaining value (strip_bom text))
    new-within None source = tt
    new-within (Some text) source = λ fits. record {
      state = st.StartRecord;
      stands = rw first
          (refl, source ∙ ap (λ t. Some (strip_bom t)) (marked-within limit text fits));
    }

  -- what csv reads of a record is the record that comes next
  pub csv-reads : (old new : Reader (Lines R)) (before : ℕ) (found : Bool)
      (fields : List (List ℕ)) → ReadRecord (lines_remaining remaining) old new found fields
      → ReadsNext remaining (stage.Csv old before) (stage.Csv new before) found fields
  unfolding Reached
  csv-reads old new before true fields read = λ state given stands.
      let more = rows-more (lines_remaining remaining) old new fields default_config
      (reader_state old) given given [] stands.0 stands.2 (refl, refl) read in (
        reader_state new,
        more.0,
        rw stands.1 (only-record (reader_state old) given fields (reader_state new) more.0 more.2),
        inl (read.2 ∙ stands.0, refl, more.1),
      )
  csv-reads old new before false fields read = λ state given stands.
      rw stands.1 (rows-end (lines_remaining remaining) old new fields default_config given
      stands.0 stands.2 read)

  -- what a reader of lines tells is what comes next
  line-reads : (old new : Lines R) (found : Bool) (fields : List (List ℕ))
      → Tells (Some found) (lines_given remaining old) (lines_given remaining new) fields
      → ReadsNext remaining (stage.Lines old) (stage.Lines new) found fields
  line-reads old new true fields h = λ state given stands.
      let taken = line-taken given (lines_given remaining new) fields (rw stands.1 at h) in
      (st.StartRecord, taken.0, rw stands.0 taken.2, inr (refl, (refl, taken.1)))
  line-reads old new false fields h = λ state given stands. rw stands.0 (rw stands.1 at h)

  module _ (old new : Records R) where
    -- the records to come after one
    to-come-after : (after : State) (text left : List ℕ) (rows : List (List (List ℕ)))
        → new.fault ≡ None → ends_at_end after ≡ false → (left ≡ text) ⊎ HasMark text left
        → AreRecords default_config after text rows
        → StandsAfter remaining new.stage after left → ToCome remaining new rows
    to-come-after after text left rows going between gives all (inl stands) = record {
      text = text;
      given = left;
      state = after;
      going = going;
      between = between;
      stands = stands;
      gives = whole text left gives;
      all = all;
    }
    to-come-after after text left rows going between gives all (inr h) = record {
      text = 10 ∷ text;
      given = 10 ∷ left;
      state = st.StartRecord;
      going = going;
      between = refl;
      stands = h.1;
      gives = whole (10 ∷ text) (10 ∷ left) (gives-cons 10 text left gives);
      all = are-records-after_line text rows (rw h.0 at all);
    }

    -- a read goes on along the records to come
    pub goes-on : (found : Bool) (rows : List (List (List ℕ)))
        → ReadsNext remaining old.stage new.stage found (current_fields new) → new.fault ≡ None
        → AreBytes (current_fields new) → ToCome remaining old rows
        → Advances remaining new found rows
    goes-on true rows reads going bytes h =
        let read = reads h.state h.given h.stands in
        let step = gives-some h.state h.text h.given (current_fields new, read.0, read.1) rows
        h.gives h.between bytes read.2 h.all in (
          step.rest,
          step.first,
          to-come-after read.0 step.left read.1 step.rest going step.between step.gives step.all
              read.3,
        )
    goes-on false rows reads going bytes h = gives-none h.state h.text h.given rows h.gives
        h.between (reads h.state h.given h.stands) h.all

    -- the text that goes on past the limit, after a record
    over-after : (state : State) (before after left : List ℕ) → new.fault ≡ None
        → ends_at_end state ≡ false → left ≡ before ++ mark ∷ after
        → StandsAfter remaining new.stage state left → IsOverLimit remaining new
    over-after state before after left going between e (inl stands) = record {
      before = before;
      after = after;
      state = state;
      going = going;
      between = between;
      stands = rw e at stands;
    }
    over-after state before after left going between e (inr h) = record {
      before = 10 ∷ before;
      after = after;
      state = st.StartRecord;
      going = going;
      between = refl;
      stands = rw e at h.1;
    }

    -- a read of a text that goes on past the limit finds a record before it
    pub over-goes-on : (found : Bool)
        → ReadsNext remaining old.stage new.stage found (current_fields new) → new.fault ≡ None
        → AreBytes (current_fields new) → IsOverLimit remaining old
        → (found ≡ true) × IsOverLimit remaining new
    over-goes-on true reads going bytes h =
        let given = h.before ++ mark ∷ h.after in
        let plain = plain-between h.state h.between in
        let read = reads h.state given h.stands in
        let found : Read = (current_fields new, read.0, read.1) in
        let left = marked-some h.state [] [] h.before h.after found plain read.2 bytes in (
          refl,
          over-after read.0 left.0 h.after read.1 going
              (record-ends h.state [] [] given found plain read.2).between left.1 read.3,
        )
    over-goes-on false reads going bytes h =
        absurd (marked-none h.state [] [] h.before h.after (plain-between h.state h.between)
        (reads h.state (h.before ++ mark ∷ h.after) h.stands))

    -- where a reader of lines tells of the next record
    module _ (before after : Lines R) (found : Bool) (first : old.stage ≡ stage.Lines before)
        (last : new.stage ≡ stage.Lines after) (going : new.fault ≡ None)
        (told : Tells (Some found) (lines_given remaining before) (lines_given remaining after)
        (parted 0 new.ends.items (line after)))
        (bytes : All (λ b. b < 256) (line after)) where
      line-next : ReadsNext remaining old.stage new.stage found (current_fields new)
      line-next = rw (first, last)
          (line-reads before after found (parted 0 new.ends.items (line after)) told)

      line-bytes : AreBytes (current_fields new)
      line-bytes = rw last (AreBytes-parted 0 new.ends.items _ bytes)

      -- its read goes on along the records to come
      pub line-goes-on : (rows : List (List (List ℕ))) → ToCome remaining old rows
          → Advances remaining new found rows
      line-goes-on rows h = goes-on found rows line-next going line-bytes h

      -- and finds a record before the limit
      pub line-over : IsOverLimit remaining old → (found ≡ true) × IsOverLimit remaining new
      line-over h = over-goes-on found line-next going line-bytes h

    -- where a stage stands as another did
    module _ (same : (state : State) (given : List ℕ) → StandsAt remaining old.stage state given
        → StandsAt remaining new.stage state given) (fault : new.fault ≡ old.fault) where
      -- the same records are to come
      pub same-to-come : (rows : List (List (List ℕ))) → ToCome remaining old rows
          → ToCome remaining new rows
      same-to-come rows h = record {
        text = h.text;
        given = h.given;
        state = h.state;
        going = fault ∙ h.going;
        between = h.between;
        stands = same h.state h.given h.stands;
        gives = h.gives;
        all = h.all;
      }

      -- and the text goes on past the limit as before
      pub same-over : IsOverLimit remaining old → IsOverLimit remaining new
      same-over h = record {
        before = h.before;
        after = h.after;
        state = h.state;
        going = fault ∙ h.going;
        between = h.between;
        stands = same h.state (h.before ++ mark ∷ h.after) h.stands;
      }

  -- a reader of lines that took none stands where it stood
  pub lines-stand : (old : Stage R) (before after : Lines R) (state : State) (given : List ℕ)
      → old ≡ stage.Lines before
      → Keeps (lines_given remaining before) (lines_given remaining after)
      → StandsAt remaining old state given → StandsAt remaining (stage.Lines after) state given
  lines-stand old before after state given first kept h =
      let stands : StandsAt remaining (stage.Lines before) state given = rw first at h in
      (stands.0, kept-known given _ (rw stands.1 at kept))

-- whoever reads but a reader of lines has csv's fields
pub fields-by-csv : {R : Type 0} (value : Stage R) (ends : List ℕ) (row : Row)
    → ((lines : Lines R) → value ≡ stage.Lines lines → ⊥)
    → csv.fields_of row ≡ fields_at value ends row
fields-by-csv (stage.Lines lines) ends row h = absurd (h lines refl)
fields-by-csv value ends row h = refl

-- a test of a header row
no-headers : (headers : Option Headers) → is_none headers ≡ true → headers ≡ None
no-headers None e = refl
no-headers (Some headers) e = cc

-- the next read of a reader that is set up is of one record
pub set-up-ready : {R : Type 0} (reader : Reader R) → ReadsWhatStands reader → Ready reader
set-up-ready reader h =
    elim (cases_Bool (took_first reader)) [
      | inl e ↦ inl e
      | inr e ↦ inr (inr (h.unnamed, no-headers (reader_headers reader) (h.headless e)))
    ]
