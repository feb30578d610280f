-- The stretch that runs at the end, and the summary.
use Rattle.mdb_surveyor.proofs.Words.{arith, ap, sym, ◌∙◌, Stretch, Totals, totals_of, with_report}
use Rattle.mdb_surveyor.proofs.Standing.{runs, same_summary}
use Rattle.mdb_surveyor.proofs.Within.{can_be_added}
use Rattle.mdb_surveyor.proofs.surveyor.Surveyor.ending.Goals as goal

pub running-last-requires : goal.running-last-requires
running-last-requires c =
    omega (arith, c.args.self.now.few, c.report_before-report.ensures.rows)

pub with-requires : goal.with-requires
with-requires c =
    can_be_added c.args.self.now.before _ _ _ c.args.self.now.few c.args.self.now.within
    c.report_before-report.ensures.within c.report_before-report.ensures.rows

pub returns : goal.returns
returns c scope rows ended on = (
  runs c.args.self.now scope rows ended c.report_before-report.result c.running-last.result on
      c.report_before-report.ensures.going c.running-last.ensures,
  same_summary _ _ _ _ _ _
      (c.with.ensures ∙ ap (λ (t : Totals). with_report t c.report_before-report.result) on.totals
      ∙ ap (λ (s : Stretch). with_report (totals_of ended) s.report) (sym c.running-last.ensures))
      (ap (λ (s : Stretch). s.scope.without) (sym c.running-last.ensures)) on.faults,
)
