-- Which records are still to come from a reader of records.
use Rattle.std.specs.Prelude.{◌≡◌, ◌≤◌, ◌++◌, ◌⊎◌, Bool, true, false, ℕ, List, [], ◌∷◌, Option}
use Rattle.std.specs.Prelude.{None, All}
use Rattle.csv.specs.Machine.{ends_at_end}
use Rattle.csv.specs.Reading.{AreRecords, default_config}
use Rattle.csv.specs.declared.parser.State.{State}
use Rattle.mdb_records.specs.Mark.{mark}
use Rattle.mdb_records.specs.Stage.{IsPastIn, StandsAt, fields_at, given_in, limit_in, source_in}
use Rattle.mdb_records.specs.declared.ReadFault.{ReadFault}
use Rattle.mdb_records.specs.declared.Records.{Records}

-- the mark stands somewhere in the text
abbrev pub HasMark : List ℕ → List ℕ → Type 0
HasMark text given =
    (before after : List ℕ) × (text ≡ before ++ after) × (given ≡ before ++ mark ∷ after)

-- the mark comes after bytes above ASCII alone, as where the limit cuts a byte order mark
abbrev pub IsCutAtStart : List ℕ → Type 0
IsCutAtStart given =
    (before after : List ℕ) × All (λ b. 128 ≤ b) before × (given ≡ before ++ mark ∷ after)

-- what is given is the text, or the limit's mark keeps each record from being given that is not the
-- text's
abbrev pub Gives : List ℕ → List ℕ → Type 0
Gives text given = (given ≡ text) ⊎ HasMark text given ⊎ IsCutAtStart given

-- these are all the records that are still to come, where `text` is the whole text that is left,
-- however long, and `given` is what the limit leaves of it
pub record ToCome {R : Type 0} (remaining : R → Option (List ℕ)) (value : Records R)
    (rows : List (List (List ℕ))) : Type 0 where
  pub text : List ℕ
  pub given : List ℕ
  pub state : State
  pub going : value.fault ≡ None
  pub between : ends_at_end state ≡ false
  pub stands : StandsAt remaining value.stage state given
  pub gives : Gives text given
  pub all : AreRecords default_config state text rows

-- the text that is left goes on past the limit
pub record IsOverLimit {R : Type 0} (remaining : R → Option (List ℕ)) (value : Records R)
    : Type 0 where
  pub before : List ℕ
  pub after : List ℕ
  pub state : State
  pub going : value.fault ≡ None
  pub between : ends_at_end state ≡ false
  pub stands : StandsAt remaining value.stage state (before ++ mark ∷ after)

-- this is the text that is left, past a byte order mark, and the limit cuts nothing from it
pub record IsUncut {R : Type 0} (remaining : R → Option (List ℕ)) (value : Records R)
    (text : List ℕ) : Type 0 where
  pub state : State
  pub stands : StandsAt remaining value.stage state text

-- the fields of the record that was read last
abbrev pub current_fields : {R : Type 0} → Records R → List (List ℕ)
current_fields value = fields_at value.stage value.ends.items value.row

-- the fault that ended the reading
abbrev pub fault_of : {R : Type 0} → Records R → Option ReadFault
fault_of value = value.fault

-- how many records were found (2^64 - 1 stands for more, too)
abbrev pub found_by : {R : Type 0} → Records R → ℕ
found_by value = value.found

-- the most bytes of the text that are given
abbrev pub limit_of : {R : Type 0} → Records R → ℕ
limit_of value = limit_in (source_in value.stage)

-- how many bytes of the text were given
abbrev pub given_by : {R : Type 0} → Records R → ℕ
given_by value = given_in (source_in value.stage)

-- a byte of the text past the limit was read
abbrev pub IsPastLimit : {R : Type 0} → Records R → Type 0
IsPastLimit value = IsPastIn (source_in value.stage)

-- a read that found the next of the records to come, and one that found that there is none
abbrev pub Advances : {R : Type 0} → (R → Option (List ℕ)) → Records R → Bool
    → List (List (List ℕ)) → Type 0
Advances remaining value true rows =
    (rest : List (List (List ℕ))) × (rows ≡ current_fields value ∷ rest)
    × ToCome remaining value rest
Advances remaining value false rows = rows ≡ []
