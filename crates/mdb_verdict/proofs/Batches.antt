-- How far the reading of a batch of rows has come.
use Rattle.mdb_verdict.proofs.Words.{Advances, Bool, ComesAfter, FitsIn, HasRead, List, Next, Option, Records, RowFault, ToCome, [], ap, append_assoc, arith, current_fields, false, length, refl, sym, true, ℕ, ◌++◌, ◌+◌, ◌-◌, ◌^◌, ◌∙◌, ◌∷◌, ◌≡◌, ◌≤◌}
use Rattle.std.proofs.Math.Nat.{min-le_left}
use Rattle.mdb_records.specs.Found.{count_after}
use Rattle.mdb_verdict.specs.declared.batch.Next.TheVariants.{More}
use Rattle.mdb_verdict.proofs.Rows.{all_append}

module _ {R Row : Type 0} {Is : List (List ℕ) → Row → Type 0}
    {Refuses : List (List ℕ) → RowFault → Type 0} {remaining : R → Option (List ℕ)}
    {all : List (List (List ℕ))} where
  pub begins : {records : Records R} {rows : List Row} → rows ≡ [] → ToCome remaining records all
      → HasRead Is Refuses remaining all records rows More
  begins empty to_come =
      record { done = []; rest = all; split = refl; told = rw empty tt; after = to_come }

  -- a row is taken
  pub goes_on : {old new : Records R} {rows longer : List Row} (row : Row)
      (taken : HasRead Is Refuses remaining all old rows More) {found : Bool} → found ≡ true
      → ((to_come : List (List (List ℕ))) → ToCome remaining old to_come
      → Advances remaining new found to_come)
      → Is (current_fields new) row → longer ≡ rows ++ row ∷ []
      → HasRead Is Refuses remaining all new longer More
  goes_on {new = new} {rows = rows} row taken is advances told are =
      let next = rw is at (advances taken.rest taken.after) in
      record {
        done = taken.done ++ current_fields new ∷ [];
        rest = next.0;
        split = taken.split ∙ (ap (λ l. taken.done ++ l) next.1
            ∙ sym (append_assoc taken.done (current_fields new ∷ []) next.0));
        told = rw are (all_append Is taken.done rows (current_fields new ∷ []) (row ∷ []) taken.told
            (told, tt));
        after = next.2;
      }

  -- what comes after the rows
  pub has_read : {old new : Records R} {rows : List Row} {next : Next}
      (taken : HasRead Is Refuses remaining all old rows More)
      → ComesAfter Refuses remaining new taken.rest next
      → HasRead Is Refuses remaining all new rows next
  has_read taken after = record {
    done = taken.done;
    rest = taken.rest;
    split = taken.split;
    told = taken.told;
    after = after;
  }

-- the rows of a batch have room
pub fits : {Row : Type 0} (room : ℕ) (rows : List Row) (next : Next) → FitsIn room rows next
    → length rows ≤ room
fits room rows More within = within.1
fits room rows next within = omega (arith, within)

-- at most one record more was found
pub found_one : (found : Bool) (before after : ℕ) → after ≡ count_after found before
    → after ≤ before + 1
found_one true before after is = omega (arith, is, min-le_left (before + 1) (2 ^ 64 - 1))
found_one false before after is = omega (arith, is)

-- or none
pub found_none : (found : Bool) (before after : ℕ) → found ≡ false
    → after ≡ count_after found before → after ≤ before
found_none true before after none is = absurd (cc)
found_none false before after none is = omega (arith, is)
