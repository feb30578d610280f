-- What the status of `replay` says.
use Rattle.std.proofs.lemmas.Option.{IfSome_then}
use Rattle.mdb_bus.specs.Scopes.{from_power_on}
use Rattle.mdb_explain.specs.Replay.{IsReplayAnswer}
use Rattle.mdb_follow.specs.declared.follower.TheConstants.{ROWS_MAX}
use Rattle.mdb_verdict.specs.Forms.{answer_text}
use Rattle.mdbcheck_run.proofs.Status.{is_marked_write, not_yes, says_answered, says_of}
use Rattle.mdbcheck_run.proofs.program.run_replay.Goals as goal

pub returns-clause-says : goal.returns-clause-says
returns-clause-says g c =
    says_of _ _ _ _ c.finish_replay.ensures.status
    (IfSome_then _ c.input_of-records.ensures.records (λ text to_come.
    says_answered (IsReplayAnswer (from_power_on c.args.profile c.args.without) ROWS_MAX _)
    (answer_text c.args.form (from_power_on c.args.profile c.args.without)) _ is_marked_write
    g.W.Write.contents _ _
    _ (c.replay_records-answer.ensures.answers _ to_come) c.replay_records-answer.ensures.leaves))
    c.input_of-records.ensures.over
    (λ over. not_yes _ (c.replay_records-answer.ensures.whole over))
