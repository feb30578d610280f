-- The writer fails at an explanation.
use Rattle.mdb_explain.proofs.Words.{Yes, is_fault, refl}
use Rattle.mdb_explain.specs.Explain.{explanation_text}
use Rattle.mdb_explain.proofs.explaining.explain_rows.Goals as goal

pub returns-in_err-write_explanation : goal.returns-in_err-write_explanation
returns-in_err-write_explanation g c =
    rw (is_fault c.from_residual.result c.from_residual.ensures.1) (
      Yes c.args.report,
      explanation_text c.as_slice.result.now c.args.rows.now,
      (refl, c.as_slice.result.now, rw c.as_slice.ensures.value c.in-Ok.ensures, refl),
      c.write_explanation.ensures.front,
    )
