-- What the status of `check` says, and what standard error is told.
use Rattle.std.proofs.Common.{ap, subst, sym, ◌∙◌}
use Rattle.std.proofs.lemmas.Option.{IfSome_then}
use Rattle.mdb_follow.specs.declared.follower.TheConstants.{ROWS_MAX}
use Rattle.mdb_check.specs.Json.{checked_text}
use Rattle.mdb_check.specs.Verdict.{IsAnsweredBeside}
use Rattle.mdbcheck_run.specs.Aside.{HasHeard, aside_of}
use Rattle.mdbcheck_run.proofs.Asides.{aside_of_check, beside_likewise, says_beside}
use Rattle.mdbcheck_run.specs.Program.{HasHeadline, status_of}
use Rattle.csv.specs.Reading.{default_config, records, strip_bom}
use Rattle.mdbcheck_run.proofs.Status.{not_yes, says_of}
use Rattle.mdbcheck_run.proofs.program.run_check.Goals as goal

pub returns-clause-says : goal.returns-clause-says
returns-clause-says g c =
    says_of _ _ _ _ (c.finish_check.ensures.status ∙ ap status_of c.answer_of.ensures)
    (IfSome_then _ c.input_of-records.ensures.records (λ text to_come. says_beside
    (IsAnsweredBeside c.args.scope.now c.args.readers ROWS_MAX _)
    (checked_text c.args.form c.args.scope.now) g.W.Write.contents _ _ _
    (c.check_records-checked.ensures.answers _ to_come) c.check_records-checked.ensures.leaves))
    c.input_of-records.ensures.over (λ over. not_yes _ (c.check_records-checked.ensures.whole over))

pub returns-clause-headline : goal.returns-clause-headline
returns-clause-headline g c =
    IfSome_then _ (returns-clause-says g c).says (λ text says. beside_likewise
    (IsAnsweredBeside c.args.scope.now c.args.readers ROWS_MAX
    (records default_config (strip_bom text)))
    (HasHeadline c.args.scope.now (records default_config (strip_bom text)))
    (checked_text c.args.form c.args.scope.now)
    (λ beside outcome is. c.verdicts_say_the_headline.ensures c.args.scope.now ROWS_MAX _ outcome
    is.0) says)

pub returns-clause-silent : goal.returns-clause-silent
returns-clause-silent g c below =
    let aside = aside_of c.args.scope.now.begins c.check_records-checked.result in (
      aside,
      subst (λ e. HasHeard g.E.Write.contents c.args.err.now e aside)
          (sym (c.finish_check.ensures.silent below)) c.tell_aside.ensures,
      aside_of_check c.args.scope.now c.args.readers _ _ c.check_records-checked.result
          (c.finish_check.ensures.status ∙ ap status_of c.answer_of.ensures)
          (IfSome_then _ c.input_of-records.ensures.records
          (λ text to_come. c.check_records-checked.ensures.judged _ to_come)),
    )
