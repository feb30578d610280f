-- The records of a text are read as its records alone.
use Rattle.std.proofs.Common.{List, length, ℕ, ◌<◌}
use Rattle.std.proofs.lemmas.Option.{IfSome_then}
use Rattle.std.specs.Prelude.{IfOk}
use Rattle.csv.specs.Reading.{default_config, records, strip_bom}
use Rattle.mdb_records.specs.ToCome.{IsOverLimit, ToCome}
use Rattle.mdb_text.specs.Text.{report_text}
use Rattle.mdb_verdict.specs.Answers.{Answers}
use Rattle.mdb_verdict.specs.Headline.{Headline}
use Rattle.mdb_verdict.specs.Verdict.{IsAnswer, IsNoYes}
use Rattle.mdb_verdict.specs.declared.fault.RunFault.TheVariants.{Write}
use Rattle.mdb_check.proofs.Verdicts.{answers_likewise, of_answer}
use Rattle.mdb_check.proofs.checking.check_text.Goals as goal

pub returns-clause-headline : goal.returns-clause-headline
returns-clause-headline g c =
    let says : (text : List ℕ)
    → ToCome g.R.Read.remaining c.records_of-records.result
    (records default_config (strip_bom text))
    → IfOk c.answer_of.result
    (Headline c.args.scope.now c.args.rows_max (records default_config (strip_bom text))) =
    λ text to_come. rw c.answer_of.ensures (of_answer
    (Headline c.args.scope.now c.args.rows_max (records default_config (strip_bom text)))
    c.check_records-checked.result (c.check_records-checked.ensures.headline _ to_come)) in
    IfSome_then _ c.records_of-records.ensures.records says

pub returns-clause-answers : goal.returns-clause-answers
returns-clause-answers g c =
    let answers : (text : List ℕ)
    → ToCome g.R.Read.remaining c.records_of-records.result
    (records default_config (strip_bom text))
    → Answers (IsAnswer c.args.scope.now c.args.rows_max (records default_config (strip_bom text)))
    (report_text c.args.scope.now) Write (g.W.Write.contents c.args.writer.now)
    (g.W.Write.contents c.check_records-checked.new.writer) c.answer_of.result =
    λ text to_come. rw c.answer_of.ensures (answers_likewise _
    (IsAnswer c.args.scope.now c.args.rows_max (records default_config (strip_bom text)))
    (report_text c.args.scope.now) (λ answer is. is.0)
    (c.check_records-checked.ensures.answers _ to_come).2) in
    let whole : (text : List ℕ)
    → (c.args.bytes_max < length text
    → IsOverLimit g.R.Read.remaining c.records_of-records.result)
    → c.args.bytes_max < length text → IsNoYes c.answer_of.result =
    λ text over long. rw c.answer_of.ensures (c.check_records-checked.ensures.whole (over long)) in
    record {
      answers = IfSome_then _ c.records_of-records.ensures.records answers;
      whole = IfSome_then _ c.records_of-records.ensures.over whole;
      leaves = rw c.answer_of.ensures c.check_records-checked.ensures.leaves;
    }
