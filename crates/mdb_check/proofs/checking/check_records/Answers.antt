-- An outcome says what the headline has of it, also where the writer fails or memory is out.
use Rattle.std.proofs.Common.{arith, inr, refl, ◌∙◌}
use Rattle.mdb_verdict.proofs.Verdicts.{is_fault}
use Rattle.mdb_check.specs.Json.{checked_text}
use Rattle.mdb_check.specs.declared.beside.TheConstants.Beside.{NONE}
use Rattle.mdb_check.proofs.Verdicts.{unanswered}
use Rattle.mdb_check.proofs.checking.check_records.Goals as goal

pub returns-clause-headline : goal.returns-clause-headline
returns-clause-headline g c all to_come =
    c.verdicts_say_the_headline.ensures c.args.scope.now _ all _
    (c.in_ok-checked.ensures.answer all to_come)

pub returns-in_err-write_text-clause-answers : goal.returns-in_err-write_text-clause-answers
returns-in_err-write_text-clause-answers g c all to_come = (
  c.in_ok-checked.checked.beside,
  rw (is_fault c.from_residual-in_err-write_text.result
      c.from_residual-in_err-write_text.ensures.1) tt,
  record {
    answer = rw (is_fault c.from_residual-in_err-write_text.result
        c.from_residual-in_err-write_text.ensures.1) (tt, tt);
    cut = λ refused. record {
      outcome = c.in_ok-checked.checked.outcome;
      is = (c.in_ok-checked.ensures.answer all to_come, c.in_ok-checked.ensures.judged all to_come);
      taken = rw (c.as_slice.ensures.value ∙ c.in-Some.ensures) at c.write_text.ensures.front;
    };
  },
)

pub returns-in_default-clause-room : goal.returns-in_default-clause-room
returns-in_default-clause-room g c all to_come out =
    inr (c.in_ok-checked.checked.outcome, c.in_ok-checked.ensures.answer all to_come)

pub returns-in_err-checked-clause-answers : goal.returns-in_err-checked-clause-answers
returns-in_err-checked-clause-answers g c all to_come =
    unanswered c.args.scope.now c.args.readers c.args.rows_max all
    (checked_text c.args.form c.args.scope.now) c.in_err-checked.field-0.0
    (c.in_err-checked.ensures.answer all to_come) c.in_err-checked.ensures.not_write
    c.from_residual.result c.from_residual.ensures.1

pub returns-in_default-clause-answers : goal.returns-in_default-clause-answers
returns-in_default-clause-answers g c all to_come =
    (NONE, tt, record { answer = (search arith, tt); cut = λ same. absurd (cc) })

pub returns-clause-answers : goal.returns-clause-answers
returns-clause-answers g c all to_come = (
  c.in_ok-checked.checked.beside,
  refl,
  record {
    answer =
        (c.in_ok-checked.ensures.answer all to_come, c.in_ok-checked.ensures.judged all to_come);
    cut = λ same. absurd (cc);
  },
)
