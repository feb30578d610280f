-- The rows so far were taken.
use Rattle.mdb_verdict.proofs.Words.{◌≡◌}
use Rattle.mdb_verdict.proofs.Taking.{Fed}
use Rattle.mdb_verdict.proofs.reading.TakeRows.take_all.Given as goal

abbrev pub invariant-loop-row : goal.invariant-loop-row
invariant-loop-row g l = record {
  fed : Fed (λ before. g.Self.TakeRows.has l.fn.self before l.fn.out)
      (λ before. g.Self.TakeRows.has l.self before l.out) l.rows l.row-index;
  keeps : g.Self.TakeRows.kept l.self ≡ g.Self.TakeRows.kept l.fn.self;
}
