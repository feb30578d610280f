-- The text of a no was written, or the writer took a front of it.
use Rattle.mdb_explain.proofs.Words.{No, ap, from_power_on, is_fault, refl, report_text, ◌∙◌}
use Rattle.mdb_explain.proofs.explaining.tell_no.Goals as goal

pub returns-in_err-write_text : goal.returns-in_err-write_text
returns-in_err-write_text g c =
    rw (is_fault c.from_residual.result c.from_residual.ensures.1) (
      No c.args.offence,
      report_text (from_power_on c.args.profile c.args.without) (No c.args.offence),
      (refl, refl),
      rw (c.as_slice.ensures.value ∙ (c.in-Ok.ensures
          ∙ ap (λ s. report_text s (No c.args.offence)) c.from_power_on.ensures)) at
          c.write_text.ensures.front,
    )

pub returns : goal.returns
returns g c = (
  report_text (from_power_on c.args.profile c.args.without) (No c.args.offence),
  (refl, refl),
  rw (c.as_slice.ensures.value ∙ (c.in-Ok.ensures
      ∙ ap (λ s. report_text s (No c.args.offence)) c.from_power_on.ensures)) at
      c.in_ok-write_text.ensures.whole,
)
