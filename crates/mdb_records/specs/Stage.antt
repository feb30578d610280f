-- What is left of the text, whoever reads its next record.
use Rattle.std.specs.Prelude.{◌≡◌, ◌-◌, ◌⊎◌, Bool, true, false, ℕ, List, [], ◌∷◌, Option, Some}
use Rattle.std.specs.Prelude.{None, IsSome}
use Rattle.std.specs.declared.io.ErrorKind.TheVariants.{WouldBlock}
use Rattle.csv.specs.Machine.{line_feed, next_record}
use Rattle.csv.specs.Reading.{default_config, reader_config, reader_source, reader_state, source_of}
use Rattle.csv.specs.declared.parser.State.{State}
use Rattle.csv.specs.declared.parser.State.TheVariants.{StartRecord}
use Rattle.csv.specs.Records.{Row, fields_of}
use Rattle.mdb_records.specs.Parts.{parted}
use Rattle.mdb_records.specs.Lines.{line, lines_given, lines_remaining}
use Rattle.mdb_records.specs.declared.limited.Limited.{Limited}
use Rattle.mdb_records.specs.declared.stage.Stage.{Stage}
use Rattle.mdb_records.specs.declared.stage.Stage.TheVariants.{Between, Csv, Lines}

-- the reader underneath
abbrev pub source_in : {R : Type 0} → Stage R → Option (Limited R)
source_in (Lines lines) = Some lines.source
source_in (Csv reader before) = Some (reader_source reader).source
source_in Between = None

-- the most bytes that it gives
abbrev pub limit_in : {R : Type 0} → Option (Limited R) → ℕ
limit_in None = 0
limit_in (Some source) = source.limit

-- how many bytes it gave
abbrev pub given_in : {R : Type 0} → Option (Limited R) → ℕ
given_in None = 0
given_in (Some source) = source.limit - source.left

-- it read a byte past them
abbrev pub IsPastIn : {R : Type 0} → Option (Limited R) → Type 0
IsPastIn None = ⊥
IsPastIn (Some source) = IsSome source.held

-- and it failed last since it had no byte yet, and didn't wait for one
abbrev pub HasBlockedIn : {R : Type 0} → Option (Limited R) → Type 0
HasBlockedIn None = ⊥
HasBlockedIn (Some source) = source.failed ≡ Some WouldBlock

-- the fields of the record that was read last, which end at these places of the line, or which csv
-- has
abbrev pub fields_at : {R : Type 0} → Stage R → List ℕ → Row → List (List ℕ)
fields_at (Lines lines) ends row = parted 0 ends (line lines)
fields_at (Csv reader before) ends row = fields_of row
fields_at Between ends row = fields_of row

-- the line that was taken last, where one was, and these places in it
abbrev pub line_on : {R : Type 0} → Stage R → List ℕ
line_on (Lines lines) = line lines
line_on (Csv reader before) = []
line_on Between = []

abbrev pub ends_on : {R : Type 0} → Stage R → List ℕ → List ℕ
ends_on (Lines lines) ends = ends
ends_on (Csv reader before) ends = []
ends_on Between ends = []

-- csv's machine is in this state, and these are the bytes that it reads next
abbrev pub StandsAt : {R : Type 0} → (R → Option (List ℕ)) → Stage R → State → List ℕ → Type 0
StandsAt remaining (Lines lines) state given =
    (state ≡ StartRecord) × (lines_given remaining lines ≡ Some given)
StandsAt remaining (Csv reader before) state given = (reader_config reader ≡ default_config)
    × (state ≡ reader_state reader) × (source_of (lines_remaining remaining) reader ≡ Some given)
StandsAt remaining Between state given = ⊥

-- whatever is read next, it is read next after this too
abbrev pub HandsOver : {R : Type 0} → (R → Option (List ℕ)) → Stage R → Stage R → Type 0
HandsOver remaining old new = (state : State) (given : List ℕ)
    → StandsAt remaining old state given → StandsAt remaining new state given

-- what is left after a record; the end of the record's line may be left too
abbrev pub StandsAfter : {R : Type 0} → (R → Option (List ℕ)) → Stage R → State → List ℕ → Type 0
StandsAfter remaining new state left = StandsAt remaining new state left
    ⊎ ((state ≡ StartRecord) × StandsAt remaining new StartRecord (line_feed ∷ left))

-- a read found the record that csv reads next, with these fields, or found that there is none
abbrev pub ReadsNext : {R : Type 0} → (R → Option (List ℕ)) → Stage R → Stage R → Bool
    → List (List ℕ) → Type 0
ReadsNext remaining old new true fields =
    (state : State) (given : List ℕ) → StandsAt remaining old state given
    → (after : State) × (left : List ℕ)
    × (next_record default_config state [] [] given ≡ Some (fields, after, left))
    × StandsAfter remaining new after left
ReadsNext remaining old new false fields =
    (state : State) (given : List ℕ) → StandsAt remaining old state given
    → next_record default_config state [] [] given ≡ None
