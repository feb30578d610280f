-- The rows so far are taken, and the rest of the records is to come. A text that is too long still
-- is.
use Rattle.mdb_verdict.proofs.Words.{IsOverLimit, None, fault_of, found_by, ◌+◌, ◌-◌, ◌≡◌, ◌≤◌}
use Rattle.mdb_verdict.specs.declared.batch.Next.TheVariants as next
use Rattle.mdb_verdict.proofs.Endings.{Progress}
use Rattle.mdb_verdict.proofs.reading.read_rows.Given as goal

abbrev pub invariant-loop-batch : goal.invariant-loop-batch
invariant-loop-batch g l = record {
  progress : Progress g.T.Row.FromRecord.is g.T.Row.FromRecord.refuses g.R.Read.remaining
      (g.T.TakeRows.has l.taker l.fn.out l.out) l.fn.records l.records next.More
      (g.T.TakeRows.count l.taker);
  over : IsOverLimit g.R.Read.remaining l.fn.records → IsOverLimit g.R.Read.remaining l.records;
  met : fault_of l.fn.records ≡ None → fault_of l.records ≡ None;
  few : g.T.TakeRows.count l.taker ≤ l.fn.rows_max;
  found : found_by l.records ≤ found_by l.fn.records + g.T.TakeRows.count l.taker;
  keeps : g.T.TakeRows.kept l.taker ≡ g.T.TakeRows.kept l.fn.taker;
}

-- the rows that may still come
abbrev pub decreases-loop-batch : goal.decreases-loop-batch
decreases-loop-batch g l = l.fn.rows_max - g.T.TakeRows.count l.taker
