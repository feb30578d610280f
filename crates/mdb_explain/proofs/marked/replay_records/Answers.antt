-- The writer fails at the text of an answer.
use Rattle.mdb_explain.proofs.Words.{ap, is_fault, ◌∙◌}
use Rattle.mdb_verdict.specs.Forms.{answer_text}
use Rattle.mdb_explain.specs.declared.fault.MarkedFault.TheVariants as marked
use Rattle.mdb_explain.proofs.marked.replay_records.Goals as goal

pub returns-in_err-write_text-clause-answers : goal.returns-in_err-write_text-clause-answers
returns-in_err-write_text-clause-answers g c all to_come = record {
  answer = rw (is_fault c.from_residual-in_err-write_text.result
      c.from_residual-in_err-write_text.ensures.1) tt;
  cut = λ refused. record {
    outcome = c.in_ok-outcome.outcome;
    is = c.in_ok-outcome.ensures.answer all to_come;
    taken = rw (c.as_slice.ensures.value ∙ (c.in-Some.ensures
        ∙ ap (λ s. answer_text c.args.form s c.in_ok-outcome.outcome) c.from_power_on.ensures)) at
        c.write_text.ensures.front;
  };
}
