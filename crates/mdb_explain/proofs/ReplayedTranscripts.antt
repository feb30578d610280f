-- The transcript of an input that is replayed with a yes is one for which `check` says yes.
use Rattle.mdb_explain.proofs.Words.{AreRead, AreRows, Err, Event, FrontsAreReached, HaveRun, IsAnswer, IsOwnAnswer, IsReplayed, IsRow, List, No, Ok, Outcome, Report, Result, RunFault, Scope, Yes, [], ap, append-nil, append_assoc, arith, as_many, compared, inl, inr, length, length-append, refl, row_not_refused, row_one, take_all, ℕ, ◌++◌, ◌∙◌, ◌∷◌, ◌≡◌}
use Rattle.mdb_follow.specs.Runs.{IsReached}
use Rattle.mdb_verdict.specs.declared.fault.RunFault.TheVariants as run

-- Rows lead up to a record: where all records are rows, so is that one, and the row after them.
record RowAfter (all rows : List Event) (fields : List (List ℕ)) : Type 0 where
  event : Event
  more : List Event
  told : IsRow fields event
  split : all ≡ rows ++ event ∷ more

row_after : (records : List (List (List ℕ))) (all rows : List Event) (fields : List (List ℕ))
    (rest : List (List (List ℕ))) → AreRows records all
    → AreRead IsRow records rows (fields ∷ rest) → RowAfter all rows fields
row_after records all rows fields rest told leads =
    elim (compared records leads.done [] (fields ∷ rest) all rows told leads.told
    (append-nil records ∙ leads.split)) [
      | inl same ↦ absurd (cc (same.1))
      | inr (inl on) ↦ absurd (cc (on.record_is))
      | inr (inr on) ↦
          let same : on.fields ≡ fields = cc (on.record_is) in
          record {
            event = on.event;
            more = on.more;
            told = rw same at on.row;
            split = on.longer_is;
          }
    ]

module _ (scope : Scope) (limit : ℕ) (records : List (List (List ℕ))) (report : Report)
    (replayed : IsReplayed scope limit records report) where
  -- its rows have a run
  pub have_runs : HaveRun scope replayed.transcript (length replayed.transcript)
  have_runs =
      let all : List (List (List ℕ)) = replayed.transcript in
      record {
        rows = replayed.rows;
        are = record {
          told = rw (take_all (length all) all (omega arith)) replayed.are_rows;
          number = as_many all replayed.rows replayed.are_rows;
        };
        sums = replayed.is.sums;
        run = replayed.is.reached.run;
      }

  -- where all rows have a run, so do those up to the one after rows that lead up to a record
  reached_after : FrontsAreReached scope → (rows : List Event) (fields : List (List ℕ))
      (event : Event) → RowAfter replayed.rows rows fields → IsRow fields event
      → IsReached scope (rows ++ event ∷ [])
  reached_after fronts rows fields event next told =
      let all : IsReached scope replayed.rows = (replayed.is.sums, replayed.is.reached.run) in
      fronts (rows ++ event ∷ []) next.more (rw (
        next.split,
        row_one fields next.event event next.told told,
        ← append_assoc rows (event ∷ []) next.more,
      ) at all)

  -- the row after rows that lead up to a record
  after : {rows : List Event} {fields : List (List ℕ)} {rest : List (List (List ℕ))}
      → AreRead IsRow replayed.transcript rows (fields ∷ rest)
      → RowAfter replayed.rows rows fields
  after {rows = rows} {fields = fields} {rest = rest} leads =
      row_after replayed.transcript replayed.rows rows fields rest replayed.are_rows leads

  -- so the answer to it is a yes
  pub says_yes : FrontsAreReached scope → (answer : Result Outcome RunFault)
      → IsAnswer scope limit replayed.transcript answer → IsOwnAnswer answer
      → (checked : Report) × (answer ≡ Ok (Yes checked))
  says_yes fronts (Ok (Yes checked)) is own = (checked, refl)
  says_yes fronts (Ok (No offence)) is own = absurd (is.stops.not_reached
      (reached_after fronts is.rows is.fields is.row (after is.read) is.told))
  says_yes fronts (Err (run.BadRow row fault)) is own = absurd (row_not_refused is.fields
      (after is.read).event fault (after is.read).told is.refused)
  says_yes fronts (Err run.TooLong) is own =
      let next = after is.read in
      absurd (omega (
        arith,
        ap length next.split,
        length-append is.rows (next.event ∷ next.more),
        replayed.few_rows,
        is.full,
      ))
  says_yes fronts (Err fault) is own = absurd own
