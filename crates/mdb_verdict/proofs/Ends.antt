-- How a reading ended, said of the rows that were taken.
use Rattle.mdb_verdict.proofs.Words.{BadRow, IsStopped, IsTakenInPart, IsTakenWhole, IsUnanswered, List, Memory, Read, RowFault, RunFault, TooLong, Write, [], append-nil, sym, ℕ}

module _ {Row : Type 0} {Is : List (List ℕ) → Row → Type 0} {limit : ℕ}
    {all : List (List (List ℕ))} where
  -- all rows were taken
  abbrev pub whole_as : {Has Taken : List Row → Type 0} (ended : IsTakenWhole Is Has limit all)
      → Taken ended.rows → IsTakenWhole Is Taken limit all
  whole_as ended taken =
      record { rows = ended.rows; told = ended.told; few = ended.few; has = taken }

  -- and so was a part
  pub part_of_whole : {Has : List Row → Type 0} → IsTakenWhole Is Has limit all
      → IsTakenInPart Is Has all
  part_of_whole ended = record {
    rows = ended.rows;
    rest = [];
    read = record { done = all; split = sym (append-nil all); told = ended.told };
    has = ended.has;
  }

  -- a row was stopped at
  abbrev pub stopped_as : {Stops Other : List Row → Row → Type 0}
      (ended : IsStopped Is Stops limit all) → Other ended.rows ended.row
      → IsStopped Is Other limit all
  stopped_as ended stops = record {
    rows = ended.rows;
    row = ended.row;
    fields = ended.fields;
    rest = ended.rest;
    read = ended.read;
    told = ended.told;
    few = ended.few;
    stops = stops;
  }

-- There is no answer, and something is had of the rows that were taken.
module _ {Row X : Type 0} {Has : List Row → Type 0} (Taken : X → List Row → Type 0)
    (Also : X → Type 0) (draws : (rows : List Row) → Has rows → (x : X) × Taken x rows × Also x)
  where
    pub drawn_in_part : {Is : List (List ℕ) → Row → Type 0} {all : List (List (List ℕ))}
        → IsTakenInPart Is Has all → (x : X) × IsTakenInPart Is (Taken x) all × Also x
    drawn_in_part ended =
        let (x, taken, also) = draws ended.rows ended.has in
        (x, record { rows = ended.rows; rest = ended.rest; read = ended.read; has = taken }, also)

    pub drawn : (Is : List (List ℕ) → Row → Type 0) (Refuses : List (List ℕ) → RowFault → Type 0)
        (limit : ℕ) (all : List (List (List ℕ))) (fault : RunFault)
        → IsUnanswered Is Refuses Has limit all fault
        → (x : X) × IsUnanswered Is Refuses (Taken x) limit all fault × Also x
    drawn Is Refuses limit all (BadRow row fault) ended =
        let (x, taken, also) = draws ended.rows ended.has in (
          x,
          record {
            rows = ended.rows;
            fields = ended.fields;
            rest = ended.rest;
            read = ended.read;
            few = ended.few;
            number = ended.number;
            refused = ended.refused;
            has = taken;
          },
          also,
        )
    drawn Is Refuses limit all TooLong ended =
        let (x, taken, also) = draws ended.rows ended.has in (
          x,
          record {
            rows = ended.rows;
            fields = ended.fields;
            rest = ended.rest;
            read = ended.read;
            full = ended.full;
            has = taken;
          },
          also,
        )
    drawn Is Refuses limit all Read ended = drawn_in_part ended
    drawn Is Refuses limit all Memory ended = drawn_in_part ended
    drawn Is Refuses limit all Write ended = absurd ended
