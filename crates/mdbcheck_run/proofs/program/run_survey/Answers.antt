-- What the status of `survey` says.
use Rattle.std.proofs.lemmas.Option.{IfSome_then}
use Rattle.mdbcheck_run.proofs.Status.{not_surveyed, says_of, says_surveyed}
use Rattle.mdbcheck_run.proofs.program.run_survey.Goals as goal

pub returns-clause-says : goal.returns-clause-says
returns-clause-says g c =
    says_of _ _ _ _ c.finish_survey.ensures.status
    (IfSome_then _ c.input_of-records.ensures.records (λ text to_come.
    says_surveyed c.args.scope.now c.args.form _ _ _ _ _
    (c.survey_records-answer.ensures.surveys _ to_come))) c.input_of-records.ensures.over
    (λ over. not_surveyed _ (c.survey_records-answer.ensures.reads.over_limit over))
