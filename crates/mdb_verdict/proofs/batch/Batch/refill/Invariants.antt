-- So many rows are taken, and the rest of the records is to come. A text that is too long still
-- is.
use Rattle.mdb_verdict.proofs.Words.{HasRead, IsOverLimit, List, None, ToCome, fault_of, found_by, length, ℕ, ◌+◌, ◌≡◌, ◌≤◌}
use Rattle.mdb_verdict.specs.declared.batch.Next.TheVariants.{More}
use Rattle.mdb_verdict.proofs.batch.Batch.refill.Given as goal

abbrev pub invariant-loop : goal.invariant-loop
invariant-loop g l = record {
  taken : (all : List (List (List ℕ))) → ToCome g.R.Read.remaining l.fn.records all
      → HasRead g.T.FromRecord.is g.T.FromRecord.refuses g.R.Read.remaining all l.records l.self
      More;
  over : IsOverLimit g.R.Read.remaining l.fn.records → IsOverLimit g.R.Read.remaining l.records;
  met : fault_of l.fn.records ≡ None → fault_of l.records ≡ None;
  counted : length l.self ≡ l.counter;
  found : found_by l.records ≤ found_by l.fn.records + length l.self;
}
