-- What the status of `show` says.
use Rattle.std.proofs.lemmas.Option.{IfSome_then}
use Rattle.mdbcheck_run.proofs.Status.{not_whole, says_of, says_shown}
use Rattle.mdbcheck_run.proofs.program.run_show.Goals as goal

pub returns-clause-says : goal.returns-clause-says
returns-clause-says g c =
    says_of _ _ _ _ c.finish_show.ensures.status
    (IfSome_then _ c.input_of-records.ensures.records (λ text to_come.
    says_shown c.args.scope.now c.args.form _ _ _ _
    (c.show_records-answer.ensures.shows _ to_come))) c.input_of-records.ensures.over
    (λ over. not_whole _ (c.show_records-answer.ensures.reads.over_limit over))
