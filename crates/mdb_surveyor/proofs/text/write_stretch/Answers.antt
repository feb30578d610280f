-- A stretch with rows has its line, and then those of its report.
use Rattle.std.proofs.Common.{ap, subst, ◌∙◌}
use Rattle.std.specs.Io.KnownBytes.{Appends}
use Rattle.mdb_bus.specs.JoinedScopes.{joined}
use Rattle.mdb_text.proofs.Texts.{then_written}
use Rattle.mdb_surveyor.specs.SurveyText.{rows_text, stretch_line}
use Rattle.mdb_surveyor.proofs.Texts.{if_some, stretch_parts}
use Rattle.mdb_surveyor.proofs.text.write_stretch.Goals as goal

pub returns : goal.returns
returns g c =
    let stretch = c.args.stretch.now in
    rw (if_some stretch.report.rows (rows_text stretch) c.if-stretch-eq0.false)
    (then_written c.write_report_lines.result _ _ _ (stretch_line stretch) _
    (subst (Appends _ _) (stretch_parts stretch) c.in_ok-write.ensures.bytes)
    (rw (c.joined-scope.ensures ∙ ap (λ s. joined s stretch.scope.without) c.setups_of.ensures) at
    c.write_report_lines.ensures))
