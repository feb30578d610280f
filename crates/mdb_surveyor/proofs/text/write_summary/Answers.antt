-- The totals come before the line of the faults, where there are rows.
use Rattle.std.proofs.Common.{◌==◌, [], if◌then◌else◌}
use Rattle.std.proofs.KnownBytes.{Appends-nil}
use Rattle.std.specs.Io.KnownBytes.{Appends}
use Rattle.mdb_text.proofs.Texts.{then_written}
use Rattle.mdb_surveyor.specs.SurveyText.{totals_text}
use Rattle.mdb_surveyor.proofs.Texts.{if_none, if_some}
use Rattle.mdb_surveyor.proofs.text.write_summary.Goals as goal
use Rattle.mdb_surveyor.proofs.text.write_summary.Goals.{then-summary-ne0+in_ok-write_totals, else-summary-ne0}

pub returns : goal.returns
returns g c =
    let summary = c.args.summary.now in
    let held = g.W.Write.contents in
    let totals = totals_text summary in
    let written : Appends (held c.args.writer.now) (held c.if-summary-ne0.writer)
    (if summary.totals.rows == 0 then [] else totals) =
    elim c.if-summary-ne0.branch [
      | then-summary-ne0+in_ok-write_totals w ↦
          rw (w.writer-is, if_some summary.totals.rows totals w.if-summary-ne0.true)
          w.in_ok-write_totals.ensures
      | else-summary-ne0 w ↦
          rw (w.writer-is, if_none summary.totals.rows totals w.if-summary-ne0.false)
          (Appends-nil (held c.args.writer.now))
    ] in
    then_written c.write_faults.result _ _ _ _ _ written c.write_faults.ensures
