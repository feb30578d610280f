-- The result of a survey (this profile).
use Rattle.std.specs.Prelude.{List}
use Rattle.mdb_surveyor.specs.declared.stretch.Ended.{Ended}
use Rattle.mdb_surveyor.specs.declared.stretch.Stretch.{Stretch}
use Rattle.mdb_surveyor.specs.declared.summary.Summary.{Summary}
use Rattle.mdb_surveyor.specs.Counts.{counts_of_ended}
use Rattle.mdb_surveyor.specs.Totals.{totals_of, with_report}

-- the totals of all stretches, the devices that are left out at the end, and how many faults there
-- are
abbrev pub summary_of : List Ended → Stretch → Summary
summary_of ended last = record {
  totals = with_report (totals_of ended) last.report;
  without = last.scope.without;
  faults = counts_of_ended ended;
}
