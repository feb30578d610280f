-- How a text reads as rows.
use Rattle.std.specs.Prelude.{◌≡◌, ◌≢◌, ◌⊎◌, ℕ, List, [], ◌∷◌, ◌++◌, All, drop, slice_index_or}
use Rattle.mdb_words.specs.declared.event.Event.{Event}
use Rattle.mdb_words.specs.declared.row.RowFault.{RowFault}
use Rattle.mdb_words.specs.Row.{IsRow}
use Rattle.mdb_words.specs.RowsWritten.{joined_by_commas}
use Rattle.mdb_words.specs.Refusals.{IsRefusal}

-- a text with a byte order mark in front of it
pub record HasMark (text : List ℕ) : Type 0 where
  pub one : slice_index_or text 0 0 ≡ 239
  pub two : slice_index_or text 1 0 ≡ 187
  pub three : slice_index_or text 2 0 ≡ 191

-- a text, and the same without the byte order mark that may stand in front of it
pub data IsUnmarked (text : List ℕ) : List ℕ → Type 0 where
  marked : {rest : List ℕ} → HasMark text → rest ≡ drop 3 text → IsUnmarked text rest
  unmarked : (HasMark text → ⊥) → IsUnmarked text text

-- the bytes before the first byte `mark`, which is there, and those after it
pub record IsCut (mark : ℕ) (all front rest : List ℕ) : Type 0 where
  pub whole : all ≡ front ++ mark ∷ rest
  pub first : All (λ byte. byte ≢ mark) front

-- The first line of a text, and what comes after it. It ends before LF, or with the text.
pub data IsFirstLine (text : List ℕ) : List ℕ → List ℕ → Type 0 where
  ended : {line rest : List ℕ} → IsCut 10 text line rest → IsFirstLine text line rest
  last : All (λ byte. byte ≢ 10) text → IsFirstLine text text []

-- a line, and the same without the CR that may end it
pub data IsBare (line : List ℕ) : List ℕ → Type 0 where
  returned : {bare : List ℕ} → line ≡ bare ++ 13 ∷ [] → IsBare line bare
  unreturned : ((bare : List ℕ) → line ≡ bare ++ 13 ∷ [] → ⊥) → IsBare line line

-- a line, without its end, in front of a text, and what comes after it
pub record IsLine (text bare rest : List ℕ) : Type 0 where
  pub line : List ℕ
  pub first : IsFirstLine text line rest
  pub is : IsBare line bare

-- three fields between commas
pub record AreFields (line time letter value : List ℕ) : Type 0 where
  pub behind : List ℕ
  pub one : IsCut 44 line time behind
  pub two : IsCut 44 behind letter value

-- a line tells a row
pub record TellsRow (line : List ℕ) (event : Event) : Type 0 where
  pub time : List ℕ
  pub letter : List ℕ
  pub value : List ℕ
  pub fields : AreFields line time letter value
  pub is : IsRow (time ∷ letter ∷ value ∷ []) event

-- all fields of a line, which no comma parts further
pub record AreAllFields (line : List ℕ) (fields : List (List ℕ)) : Type 0 where
  pub whole : line ≡ joined_by_commas fields
  pub parted : All (All (λ byte. byte ≢ 44)) fields

-- the fields of a line are refused, and why
pub record AreNoRow (line : List ℕ) (why : RowFault) : Type 0 where
  pub fields : List (List ℕ)
  pub all : AreAllFields line fields
  pub is : IsRefusal fields why

-- a line has no quote and no CR, and its fields are refused
pub record TellsNoRow (line : List ℕ) (why : RowFault) : Type 0 where
  pub fields : AreNoRow line why
  pub unquoted : All (λ byte. byte ≢ 34) line
  pub unreturned : All (λ byte. byte ≢ 13) line

-- a line has a quote or a CR
abbrev pub IsUnread : List ℕ → Type 0
IsUnread line = ((front rest : List ℕ) × IsCut 34 line front rest)
    ⊎ ((front rest : List ℕ) × IsCut 13 line front rest)

-- Lines that were read off the front of a text, the rows that they tell, and what is left. A line
-- without bytes tells nothing.
pub data HasRead (text : List ℕ) : List Event → List ℕ → Type 0 where
  start : HasRead text [] text
  blank : {rows : List Event} {rest after : List ℕ} → HasRead text rows rest
      → IsLine rest [] after → HasRead text rows after
  row : {rows : List Event} {rest bare after : List ℕ} (event : Event) → HasRead text rows rest
      → IsLine rest bare after → TellsRow bare event → HasRead text (rows ++ event ∷ []) after

-- The first line of a text has bytes and tells no row, and why.
pub record IsNoRow (text : List ℕ) (why : RowFault) : Type 0 where
  pub bare : List ℕ
  pub after : List ℕ
  pub line : IsLine text bare after
  pub some : bare ≢ []
  pub is : TellsNoRow bare why

-- The first line of a text tells a row.
pub record IsNextRow (text : List ℕ) (event : Event) : Type 0 where
  pub bare : List ℕ
  pub after : List ℕ
  pub line : IsLine text bare after
  pub is : TellsRow bare event
