-- The fields of a line.
use Rattle.mdb_page.proofs.Words.{All, All-cons, All-head, All-nil, All-tail, AreAllFields, AreNoRow, IfSome, IsCut, List, None, Option, Some, [], ap, arith, cases_Bool, eq-eqb, eqb-true, inl, inr, is_some, length, refl, true, ℕ, ◌++◌, ◌<◌, ◌==◌, ◌∙◌, ◌∷◌, ◌≡◌, ◌≢◌}
use Rattle.mdb_words.specs.declared.row.RowFault.TheVariants.{FieldCount}
use Rattle.mdb_words.specs.RowsWritten.{joined_by_commas}

-- a byte that is no comma, and a field without one
abbrev Other : ℕ → Type 0
Other byte = byte ≢ 44

abbrev Field : List ℕ → Type 0
Field field = All Other field

-- the fields of a line that has no comma
pub alone : (line : List ℕ) → All (λ byte. byte ≢ 44) line → AreAllFields line (line ∷ [])
alone line none = record { whole = refl; parted = All-cons Field line [] none (All-nil Field) }

-- the fields of a line, by those behind its first comma
pub more : (line front rest : List ℕ) (fields : List (List ℕ)) → IsCut 44 line front rest
    → 0 < length fields
    → AreAllFields rest fields → AreAllFields line (front ∷ fields)
more line front rest [] cut some all = absurd (omega (arith, some))
more line front rest (field ∷ fields) cut some all = record {
  whole = cut.whole ∙ ap (λ l. front ++ 44 ∷ l) all.whole;
  parted = All-cons Field front (field ∷ fields) cut.first all.parted;
}

-- a line has fields
pub record HasFields (line : List ℕ) : Type 0 where
  pub fields : List (List ℕ)
  pub some : 0 < length fields
  pub all : AreAllFields line fields

longer : (byte : ℕ) (bytes : List ℕ) (fields : List (List ℕ)) → byte ≢ 44 → 0 < length fields
    → AreAllFields bytes fields → HasFields (byte ∷ bytes)
longer byte bytes [] other some all = absurd (omega (arith, some))
longer byte bytes (field ∷ fields) other some all = record {
  fields = (byte ∷ field) ∷ fields;
  some = omega arith;
  all = record {
    whole = whole fields all.whole;
    parted = All-cons Field (byte ∷ field) fields
        (All-cons Other byte field other (All-head Field field fields all.parted))
        (All-tail Field field fields all.parted);
  };
}
  where
    whole : (fields : List (List ℕ)) → bytes ≡ joined_by_commas (field ∷ fields)
        → byte ∷ bytes ≡ joined_by_commas ((byte ∷ field) ∷ fields)
    whole [] is = ap (λ l. byte ∷ l) is
    whole (next ∷ fields) is = ap (λ l. byte ∷ l) is

pub fields_of : (line : List ℕ) → HasFields line
fields_of [] = record { fields = [] ∷ []; some = omega arith; all = alone [] (All-nil Other) }
fields_of (byte ∷ bytes) =
    let rest = fields_of bytes in
    elim (cases_Bool (byte == 44)) [
      | inl same ↦ record {
        fields = [] ∷ rest.fields;
        some = omega arith;
        all =
            more (byte ∷ bytes) [] bytes rest.fields (record {
              whole = ap (λ b. b ∷ bytes) (eqb-true byte 44 same);
              first = All-nil Other;
            }) rest.some rest.all;
      }
      | inr other ↦ longer byte bytes rest.fields (λ same. cc (eq-eqb byte 44 same, other))
          rest.some rest.all
    ]

-- what is told of a value that is there
pub some_told : {X : Type 0} {P : X → Type 0} (found : Option X) → IfSome found P
    → is_some found ≡ true → (x : X) × P x
some_told None told is = absurd cc
some_told (Some x) told is = (x, told)

-- Three fields aren't all where the last of them has a comma.
pub too_many : (line time behind letter value front rest : List ℕ) → IsCut 44 line time behind
    → IsCut 44 behind letter value → IsCut 44 value front rest → AreNoRow line FieldCount
too_many line time behind letter value front rest one two three =
    let last = fields_of rest in
    record {
      fields = time ∷ letter ∷ front ∷ last.fields;
      all = more line time behind (letter ∷ front ∷ last.fields) one (omega arith)
          (more behind letter value (front ∷ last.fields) two (omega arith)
          (more value front rest last.fields three last.some last.all));
      is = λ few. omega (arith, few, last.some);
    }
