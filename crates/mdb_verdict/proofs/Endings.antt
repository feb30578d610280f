-- How far the reading of rows has come, and how it ends.
use Rattle.mdb_verdict.proofs.Words.{AreRead, ComesAfter, EndsAfter, Err, FindsAtMost, FindsUpTo, FitsIn, HasEnded, HasFirst, HasRead, IfErr, IfSome, IsErrOf, IsHeard, IsMet, IsStopped, IsTakenInPart, IsTakenWhole, IsToldEnd, List, Memory, Next, None, Ok, Option, Read, ReadFault, Records, RowFault, RunFault, Some, StopsAmong, ToCome, TooLong, [], ap, append-nil, append_assoc, arith, false, goes_on_by, inl, inr, length, length-append, refl, run_fault_of, sym, true, ℕ, ◌++◌, ◌+◌, ◌∙◌, ◌≡◌, ◌≤◌, ◌⊎◌}
use Rattle.mdb_records.specs.declared.ReadFault.TheVariants as reading
use Rattle.mdb_verdict.specs.declared.batch.Next.TheVariants as next
use Rattle.mdb_verdict.proofs.Batches as batches
use Rattle.mdb_verdict.proofs.Rows.{all_append, empty, fewer, first_row, no_rows, read_at}

-- The first of the records are so many rows, which were taken, and this is what comes after them.
pub record Progress {R Row : Type 0} (Is : List (List ℕ) → Row → Type 0)
    (Refuses : List (List ℕ) → RowFault → Type 0) (remaining : R → Option (List ℕ))
    (Has : List Row → Type 0) (start records : Records R) (after : Next) (count : ℕ)
    : Type 0 where
  pub rows : List Row
  pub has : Has rows
  pub number : count ≡ length rows
  pub has_read : (all : List (List (List ℕ))) → ToCome remaining start all
      → HasRead Is Refuses remaining all records rows after

module _ {R Row : Type 0} {Is : List (List ℕ) → Row → Type 0}
    {Refuses : List (List ℕ) → RowFault → Type 0} {remaining : R → Option (List ℕ)} where
  pub begins : {Has : List Row → Type 0} {start : Records R} {count : ℕ} → Has [] → count ≡ 0
      → Progress Is Refuses remaining Has start start next.More count
  begins has none = record {
    rows = [];
    has = has;
    number = none;
    has_read = λ all to_come. batches.begins refl to_come;
  }

  -- the records of two batches
  both_read : {all : List (List (List ℕ))} {old new : Records R} {rows later : List Row}
      {after : Next} → HasRead Is Refuses remaining all old rows next.More
      → ((rest : List (List (List ℕ))) → ToCome remaining old rest
      → HasRead Is Refuses remaining rest new later after)
      → HasRead Is Refuses remaining all new (rows ++ later) after
  both_read {rows = rows} {later = later} first reads =
      let second = reads first.rest first.after in
      record {
        done = first.done ++ second.done;
        rest = second.rest;
        split = first.split ∙ (ap (λ l. first.done ++ l) second.split
            ∙ sym (append_assoc first.done second.done second.rest));
        told = all_append Is first.done rows second.done later first.told second.told;
        after = second.after;
      }

  -- A batch more was read.
  module _ {Has : List Row → Type 0} {start old new : Records R} {events later : List Row}
      {after : Next} {count : ℕ}
      (progress : Progress Is Refuses remaining Has start old next.More count)
      (reads : (rest : List (List (List ℕ))) → ToCome remaining old rest
      → HasRead Is Refuses remaining rest new later after) (same : events ≡ later) where
    -- its rows are taken
    pub goes_on : {Later : List Row → Type 0} {total : ℕ}
        → ((earlier : List Row) → Has earlier → Later (earlier ++ events))
        → ((rows : List Row) → Later rows → total ≡ length rows)
        → Progress Is Refuses remaining Later start new after total
        × (total ≡ count + length later)
    goes_on {Later = Later} takes counts =
        let has : Later (progress.rows ++ later) =
        rw same at (takes progress.rows progress.has) in
        let number = counts (progress.rows ++ later) has in (
          record {
            rows = progress.rows ++ later;
            has = has;
            number = number;
            has_read = λ all to_come. both_read (progress.has_read all to_come) reads;
          },
          omega (arith, progress.number, number, length-append progress.rows later),
        )

    -- one of them was stopped at
    pub stopped : {Stops : List Row → Row → Type 0} {limit : ℕ} {all : List (List (List ℕ))}
        → ToCome remaining start all
        → ((earlier : List Row) → Has earlier → StopsAmong Stops earlier events)
        → count + length later ≤ limit → IsStopped Is Stops limit all
    stopped {all = all} to_come takes room =
        let read = both_read (progress.has_read all to_come) reads in
        let at = takes progress.rows progress.has in
        let whole : AreRead Is all (progress.rows ++ events) read.rest =
        rw same (record { done = read.done; split = read.split; told = read.told }) in
        let up_to = read_at Is progress.rows at.front at.row at.rest whole at.parts in
        let less = fewer progress.rows at.front at.row at.rest at.parts in
        record {
          rows = progress.rows ++ at.front;
          row = at.row;
          fields = up_to.fields;
          rest = up_to.rest;
          read = up_to.read;
          told = up_to.told;
          few = omega (
            arith,
            less,
            ap length same,
            progress.number,
            length-append progress.rows events,
            room,
          );
          stops = at.stops;
        }

  -- How the reading ends after rows that were taken.
  module _ {Has : List Row → Type 0} {start records : Records R} {after : Next} {count : ℕ}
      {all : List (List (List ℕ))}
      (progress : Progress Is Refuses remaining Has start records after count)
      (to_come : ToCome remaining start all) where
    read : HasRead Is Refuses remaining all records progress.rows after
    read = progress.has_read all to_come

    -- the records up to the rest
    are_read : {rest : List (List (List ℕ))} → read.rest ≡ rest → AreRead Is all progress.rows rest
    are_read is = record { done = read.done; split = rw is at read.split; told = read.told }

    -- some first records are taken
    in_part : IsTakenInPart Is Has all
    in_part = record {
      rows = progress.rows;
      rest = read.rest;
      read = are_read refl;
      has = progress.has;
    }

    -- the records are all taken
    pub whole : {limit : ℕ}
        → ((rest : List (List (List ℕ))) → ComesAfter Refuses remaining records rest after
        → rest ≡ []) → count ≤ limit → IsTakenWhole Is Has limit all
    whole none few =
        let same : all ≡ read.done = rw (none read.rest read.after, append-nil) at read.split in
        record {
          rows = progress.rows;
          told = rw same read.told;
          few = omega (arith, progress.number, few);
          has = progress.has;
        }

    module _ {Stop : Type 0} (Stops : List Row → Row → Stop → Type 0) (limit : ℕ) where
      -- a record isn't taken, or can't be read
      pub refused : (room : ℕ) (later : List Row) → FitsIn room later after
          → count + room ≡ limit + length later
          → IfErr (goes_on_by after count)
          (λ fault. HasEnded Is Refuses Has Stops limit all (Err fault))
      refused room later = by after read.after
        where
          by : (next : Next) → ComesAfter Refuses remaining records read.rest next
              → FitsIn room later next → count + room ≡ limit + length later
              → IfErr (goes_on_by next count)
              (λ fault. HasEnded Is Refuses Has Stops limit all (Err fault))
          by (next.BadRow fault) bad within total = record {
            rows = progress.rows;
            fields = bad.0;
            rest = bad.1;
            read = are_read bad.2;
            few = omega (arith, progress.number, within, total);
            number = omega (arith, progress.number);
            refused = bad.3;
            has = progress.has;
          }
          by (next.Failed reading.Read) failed within total = in_part
          by (next.Failed reading.Memory) failed within total = in_part
          by next came within total = tt

      -- the same after as many rows as there may be
      pub refused_at : count ≡ limit → (fault : RunFault)
          → ((rest : List (List (List ℕ))) → ComesAfter Refuses remaining records rest after
          → EndsAfter rest (Err fault)) → HasEnded Is Refuses Has Stops limit all (Err fault)
      refused_at full TooLong ends =
          let first = ends read.rest read.after in
          record {
            rows = progress.rows;
            fields = first.fields;
            rest = first.rest;
            read = are_read first.is;
            full = sym progress.number ∙ full;
            has = progress.has;
          }
      refused_at full Read ends = in_part
      refused_at full Memory ends = in_part
      refused_at full fault ends = absurd (ends read.rest read.after)

  -- After as many rows as there may be.

  -- no record is found
  pub none_left : {rest : List (List (List ℕ))} {new : Records R} {rows : List Row} (after : Next)
      → HasRead Is Refuses remaining rest new rows after → FitsIn 1 rows after → after ≡ next.End
      → rest ≡ []
  none_left {rows = rows} next.End read within is =
      rw (no_rows Is read.done rows read.told (empty rows within), read.after) at read.split
  none_left after read within is = absurd (cc)

  -- a row is found, or a record that is none
  pub first_found : {rest : List (List (List ℕ))} {new : Records R} {rows : List Row}
      (after : Next) → HasRead Is Refuses remaining rest new rows after → FitsIn 1 rows after
      → (after ≡ next.More) ⊎ ((fault : RowFault) × (after ≡ next.BadRow fault)) → HasFirst rest
  first_found {rows = rows} next.More read within more =
      let first = first_row Is read.done read.rest rows read.told within.0 in
      record { fields = first.fields; rest = first.rest; is = read.split ∙ first.is }
  first_found {rows = rows} (next.BadRow fault) read within more = record {
    fields = read.after.0;
    rest = read.after.1;
    is = rw (no_rows Is read.done rows read.told (empty rows within), read.after.2) at read.split;
  }
  first_found after read within (inl is) = absurd (cc)
  first_found after read within (inr other) = absurd (cc (other.1))

-- What comes after a batch.

-- more is to come
pub is_more : (after : Next) (rows : ℕ) → Ok true ≡ goes_on_by after rows → after ≡ next.More
is_more next.More rows goes = refl
is_more after rows goes = absurd (cc)

-- the text ends
pub is_end : (after : Next) (rows : ℕ) → Ok false ≡ goes_on_by after rows → after ≡ next.End
is_end next.End rows ends = refl
is_end after rows ends = absurd (cc)

-- A fault after a batch.

-- it is one that the reading of records has met
pub heard_by : (after : Next) (rows : ℕ) (met : Option ReadFault)
    → ((failed : ReadFault) → after ≡ next.Failed failed → met ≡ Some failed)
    → IfErr (goes_on_by after rows) (IsHeard met)
heard_by (next.Failed reading.Read) rows met known = known reading.Read refl
heard_by (next.Failed reading.Memory) rows met known = known reading.Memory refl
heard_by after rows met known = tt

-- one that was met is the answer
pub met_by : (after : Next) (rows : ℕ) (met : Option ReadFault) → IsMet after met
    → IfErr (goes_on_by after rows) (λ fault. IfSome met (λ failed. fault ≡ run_fault_of failed))
met_by (next.Failed failed) rows met known = rw known refl
met_by (next.BadRow refused) rows met known = rw known tt
met_by after rows met known = tt

-- so it is after the last row that there may be, and at the end of the text none is
pub met_at : (fault : RunFault) (met : Option ReadFault)
    → IfSome met (λ failed. IsErrOf {T = Unit {0}} (Err fault) (run_fault_of failed))
    → IfSome met (λ failed. fault ≡ run_fault_of failed)
met_at fault None known = tt
met_at fault (Some failed) known = cc

pub met_none_at : (done : Unit {0}) (met : Option ReadFault)
    → IfSome met (λ failed. IsErrOf (Ok done) (run_fault_of failed)) → IfSome met (λ failed. ⊥)
met_none_at done None known = tt
met_none_at done (Some failed) known = absurd cc

-- a row that was stopped at is told before any
pub met_stopped : {Stop : Type 0} (met : Option ReadFault) (stop : Stop)
    → IfSome met (λ failed. IsToldEnd failed (Ok (Some stop)))
met_stopped None stop = tt
met_stopped (Some failed) stop = tt

-- no more records were found than the rows that were taken, where the next one can't be read
pub found_by_next : (after : Next) (rows most more new : ℕ) → most ≤ more
    → FindsAtMost after most new
    → IfErr (goes_on_by after rows) (λ fault. FindsUpTo fault more new)
found_by_next (next.Failed reading.Read) rows most more new below finds = omega (arith, finds)
found_by_next (next.Failed reading.Memory) rows most more new below finds = omega (arith, finds)
found_by_next after rows most more new below finds = tt

pub found_at : (fault : RunFault) (most more new : ℕ) → most ≤ more → FindsUpTo fault most new
    → FindsUpTo fault more new
found_at Read most more new below finds = omega (arith, finds)
found_at Memory most more new below finds = omega (arith, finds)
found_at fault most more new below finds = tt
