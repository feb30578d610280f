-- The head of a report comes before its lines.
use Rattle.mdb_text.proofs.Texts.{then_written}
use Rattle.mdb_text.proofs.text.write_report.Goals as goal

pub returns : goal.returns
returns g c = then_written c.write_report_lines.result _ _ _ _ _ c.in_ok-write_head.ensures
    c.write_report_lines.ensures
