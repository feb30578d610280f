-- Records that are rows.
use Rattle.mdb_verdict.proofs.Words.{AreAll, AreRead, Err, HasFirst, IsOk, List, Ok, Result, [], ap, append_assoc, arith, length, length-append, refl, sym, ℕ, ◌++◌, ◌+◌, ◌<◌, ◌∙◌, ◌∷◌, ◌≡◌}

-- so many are there then
pub one_longer : {Row : Type 0} (rows longer : List Row) (row : Row) → longer ≡ rows ++ row ∷ []
    → length longer ≡ length rows + 1
one_longer rows longer row are = ap length are ∙ length-append rows (row ∷ [])

-- rows after rows
pub all_append : {Row : Type 0} (Is : List (List ℕ) → Row → Type 0) (one : List (List (List ℕ)))
    (first : List Row) (other : List (List (List ℕ))) (second : List Row) → AreAll Is one first
    → AreAll Is other second
    → AreAll Is (one ++ other) (first ++ second)
all_append Is [] [] other second told more = more
all_append Is (r ∷ one) (e ∷ first) other second told more =
    (told.0, all_append Is one first other second told.1 more)
all_append Is one first other second told more = absurd told

-- the records of rows that have parts have parts too
pub record Parts {Row : Type 0} (Is : List (List ℕ) → Row → Type 0) (records : List (List (List ℕ)))
    (rows more : List Row) : Type 0 where
  pub done : List (List (List ℕ))
  pub after : List (List (List ℕ))
  pub is : records ≡ done ++ after
  pub told : AreAll Is done rows
  pub others : AreAll Is after more

pub parts_of : {Row : Type 0} (Is : List (List ℕ) → Row → Type 0) (records : List (List (List ℕ)))
    (rows more : List Row) → AreAll Is records (rows ++ more) → Parts Is records rows more
parts_of Is records [] more told = record {
  done = [];
  after = records;
  is = refl;
  told = tt;
  others = told;
}
parts_of Is [] (row ∷ rows) more told = absurd told
parts_of Is (fields ∷ records) (row ∷ rows) more told =
    let later : Parts Is records rows more = parts_of Is records rows more told.1 in
    record {
      done = fields ∷ later.done;
      after = later.after;
      is = ap (λ l. fields ∷ l) later.is;
      told = (told.0, later.told);
      others = later.others;
    }

-- so the first of some rows are read
pub record IsReadBefore {Row : Type 0} (Is : List (List ℕ) → Row → Type 0)
    (all : List (List (List ℕ))) (rows : List Row) (more : List Row) : Type 0 where
  pub after : List (List (List ℕ))
  pub rest : List (List (List ℕ))
  pub others : AreAll Is after more
  pub read : AreRead Is all rows (after ++ rest)

pub read_before : {Row : Type 0} (Is : List (List ℕ) → Row → Type 0) (all : List (List (List ℕ)))
    (rows more : List Row) (rest : List (List (List ℕ))) → AreRead Is all (rows ++ more) rest
    → IsReadBefore Is all rows more
read_before Is all rows more rest read =
    let parts = parts_of Is read.done rows more read.told in
    record {
      after = parts.after;
      rest = rest;
      others = parts.others;
      read = record {
        done = parts.done;
        split = read.split ∙ (ap (λ l. l ++ rest) parts.is
            ∙ append_assoc parts.done parts.after rest);
        told = parts.told;
      };
    }

-- and the record of the row after them
pub record IsReadUpTo {Row : Type 0} (Is : List (List ℕ) → Row → Type 0)
    (all : List (List (List ℕ))) (rows : List Row) (row : Row) : Type 0 where
  pub fields : List (List ℕ)
  pub rest : List (List (List ℕ))
  pub read : AreRead Is all rows (fields ∷ rest)
  pub told : Is fields row

pub read_up_to : {Row : Type 0} (Is : List (List ℕ) → Row → Type 0) (all : List (List (List ℕ)))
    (rows : List Row) (row : Row) (more : List Row) (rest : List (List (List ℕ)))
    → AreRead Is all (rows ++ row ∷ more) rest
    → IsReadUpTo Is all rows row
read_up_to Is all rows row more rest read =
    let before = read_before Is all rows (row ∷ more) rest read in
    first before.after before.rest before.others before.read
  where
    first : (after rest : List (List (List ℕ))) → AreAll Is after (row ∷ more)
        → AreRead Is all rows (after ++ rest) → IsReadUpTo Is all rows row
    first (fields ∷ after) rest others read =
        record { fields = fields; rest = after ++ rest; read = read; told = others.0 }
    first [] rest others read = absurd others

-- the same of one of some later rows, of which as many come before it or fewer
pub read_at : {Row : Type 0} (Is : List (List ℕ) → Row → Type 0) {all : List (List (List ℕ))}
    (earlier : List Row) {later : List Row} (front : List Row) (row : Row) (more : List Row)
    {rest : List (List (List ℕ))} → AreRead Is all (earlier ++ later) rest
    → later ≡ front ++ row ∷ more → IsReadUpTo Is all (earlier ++ front) row
read_at Is {all = all} earlier front row more {rest = rest} read parts =
    read_up_to Is all (earlier ++ front) row more rest
    (rw (parts, sym (append_assoc earlier front (row ∷ more))) at read)

pub fewer : {Row : Type 0} (earlier : List Row) {later : List Row} (front : List Row) (row : Row)
    (more : List Row) → later ≡ front ++ row ∷ more
    → length (earlier ++ front) < length (earlier ++ later)
fewer earlier front row more parts = rw parts (simp length-append (omega arith))

-- with the record of the next row
pub read_with : {Row : Type 0} (Is : List (List ℕ) → Row → Type 0) {all : List (List (List ℕ))}
    {rows : List Row} {row : Row} {fields : List (List ℕ)} {rest : List (List (List ℕ))}
    → AreRead Is all rows (fields ∷ rest) → Is fields row → AreRead Is all (rows ++ row ∷ []) rest
read_with Is {rows = rows} {row = row} {fields = fields} {rest = rest} read told = record {
  done = read.done ++ fields ∷ [];
  split = read.split ∙ sym (append_assoc read.done (fields ∷ []) rest);
  told = all_append Is read.done rows (fields ∷ []) (row ∷ []) read.told (told, tt);
}

-- the first of the records of some rows
pub first_row : {Row : Type 0} (Is : List (List ℕ) → Row → Type 0)
    (done rest : List (List (List ℕ))) (rows : List Row) → AreAll Is done rows → 0 < length rows
    → HasFirst (done ++ rest)
first_row Is (r ∷ done) rest rows told some = record { fields = r; rest = done ++ rest; is = refl }
first_row Is [] rest [] told some = absurd (omega arith)
first_row Is [] rest (e ∷ rows) told some = absurd told

pub no_rows : {Row : Type 0} (Is : List (List ℕ) → Row → Type 0) (done : List (List (List ℕ)))
    (rows : List Row) → AreAll Is done rows → rows ≡ [] → done ≡ []
no_rows Is [] rows told none = refl
no_rows Is (r ∷ done) [] told none = absurd told
no_rows Is (r ∷ done) (e ∷ rows) told none = absurd (cc)

pub empty : {Row : Type 0} (rows : List Row) → length rows < 1 → rows ≡ []
empty [] few = refl
empty (e ∷ rows) few = absurd (omega (arith, few))
