-- Records of three plain fields, which are written without quotes, one line each: what is read of
-- their text.
use Rattle.mdb_records.proofs.PlainFacts.{comma-read, line-read, IsOwn}
use Rattle.mdb_records.proofs.LineFacts.{strip-low}
use Rattle.mdb_records.proofs.Words.{arith, refl, ap, ◌∙◌, ◌≡◌, ◌+◌, ◌<◌, ◌≤◌, ℕ, zero, suc, List, [], ◌∷◌, ◌++◌, length, length-append, append_assoc, All, ne_eqb, flat_map, ⊤, All-head, next_record, default_config, records, records_from, strip_bom, joined_by_commas, All-weaker, add-one, Some}
use Rattle.csv.specs.declared.parser.State.TheVariants as st

-- the line of a record
abbrev record_line : List (List ℕ) → List ℕ
record_line fields = joined_by_commas fields ++ 10 ∷ []

-- a byte that calls for no quotes, and begins no byte order mark
abbrev pub IsPlainByte : ℕ → Type 0
IsPlainByte c = (44 < c) × (c < 128)

-- three fields of such bytes, the first of which isn't empty
pub record IsPlain (fields : List (List ℕ)) : Type 0 where
  pub first : List ℕ
  pub second : List ℕ
  pub third : List ℕ
  pub are : fields ≡ first ∷ second ∷ third ∷ []
  pub some : 1 ≤ length first
  pub first_plain : All IsPlainByte first
  pub second_plain : All IsPlainByte second
  pub third_plain : All IsPlainByte third

abbrev pub ArePlain : List (List (List ℕ)) → Type 0
ArePlain [] = ⊤
ArePlain (fields ∷ those) = IsPlain fields × ArePlain those

-- their lines
abbrev pub lines_of : List (List (List ℕ)) → List ℕ
lines_of those = flat_map record_line those

-- a plain byte means to csv itself alone
own : (c : ℕ) → IsPlainByte c → IsOwn c
own c plain =
    rw (
      ne_eqb c 44 (omega arith),
      ne_eqb c 34 (omega arith),
      ne_eqb c 13 (omega arith),
      ne_eqb c 10 (omega arith),
    ) refl

all_own : (field : List ℕ) → All IsPlainByte field → All IsOwn field
all_own field = All-weaker IsPlainByte IsOwn own field

-- csv reads such a record from its line
line_reads : (fields : List (List ℕ)) (rest : List ℕ) → IsPlain fields
    → next_record default_config st.StartRecord [] [] (record_line fields ++ rest)
    ≡ Some (fields, st.StartRecord, rest)
line_reads fields rest plain =
    rw plain.are (simp append_assoc
    (comma-read [] 0 plain.first _ (all_own _ plain.first_plain)
    ∙ comma-read (plain.first ∷ []) 1 plain.second _ (all_own _ plain.second_plain)
    ∙ line-read (plain.first ∷ plain.second ∷ []) 1 plain.third rest (omega arith)
    (all_own _ plain.third_plain)))

-- a read of so many records or more
enough : (n : ℕ) (those : List (List (List ℕ))) → ArePlain those → length those ≤ n
    → records_from default_config (suc n) st.StartRecord (lines_of those) ≡ those
unfolding records_from next_record
enough n [] plain few = refl
enough zero (fields ∷ those) plain few = absurd (omega arith)
enough (suc n) (fields ∷ those) plain few =
    rw (line_reads fields (lines_of those) plain.0)
    (ap (λ l. fields ∷ l) (enough n those plain.1 (omega arith)))

-- each record takes a byte at least
bytes : (those : List (List (List ℕ))) → length those ≤ length (lines_of those)
bytes [] = omega arith
bytes (fields ∷ those) = simp length-append (omega (arith, bytes those))

-- no byte order mark is taken off
whole_field : (field rest : List ℕ) → 1 ≤ length field → All IsPlainByte field
    → strip_bom (field ++ rest) ≡ field ++ rest
whole_field [] rest some plain = absurd (omega arith)
whole_field (c ∷ field) rest some plain =
    strip-low c (field ++ rest) (All-head IsPlainByte c field plain).1

whole_text : (those : List (List (List ℕ))) → ArePlain those
    → strip_bom (lines_of those) ≡ lines_of those
unfolding strip_bom
whole_text [] plain = refl
whole_text (fields ∷ those) plain =
    rw plain.0.are (simp append_assoc (whole_field plain.0.first _ plain.0.some
    plain.0.first_plain))

-- the records of the lines are these
pub read_of_lines : (those : List (List (List ℕ))) → ArePlain those
    → records default_config (strip_bom (lines_of those)) ≡ those
read_of_lines those plain =
    rw (whole_text those plain, add-one)
    (enough (length (lines_of those)) those plain (bytes those))

-- plain records after plain ones
pub plain_append : (one other : List (List (List ℕ))) → ArePlain one → ArePlain other
    → ArePlain (one ++ other)
plain_append [] other plain more = more
plain_append (fields ∷ one) other plain more = (plain.0, plain_append one other plain.1 more)
