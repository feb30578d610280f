-- What the status of `explain` says.
use Rattle.std.proofs.lemmas.Option.{IfSome_then}
use Rattle.mdb_bus.specs.Scopes.{from_power_on}
use Rattle.mdbcheck_run.proofs.Status.{not_yes, says_explained, says_of}
use Rattle.mdbcheck_run.proofs.program.run_explain.Goals as goal

pub returns-clause-says : goal.returns-clause-says
returns-clause-says g c =
    says_of _ _ _ _ c.finish_check.ensures.status
    (IfSome_then _ c.input_of-records.ensures.records (λ text to_come.
    says_explained (from_power_on c.args.profile c.args.without) c.args.goal.now g.W.Write.contents
    _ _ _ _
    (c.explain_records-answer.ensures.explained _ to_come) c.explain_records-answer.ensures.leaves))
    c.input_of-records.ensures.over
    (λ over. not_yes _ (c.explain_records-answer.ensures.whole over))
