-- The verdict on rows that are kept is that of `check`, and they are its rows.
use Rattle.mdb_explain.proofs.Words.{HasKept, IsAnswer, Ok, ROWS_MAX, ap, subst}
use Rattle.mdb_follow.specs.Follower.{scope_of}
use Rattle.mdb_explain.proofs.ExplainedTexts as explanations
use Rattle.mdb_verdict.proofs.Verdicts as verdicts
use Rattle.mdb_explain.proofs.explaining.kept_outcome.Goals as goal

pub returns-in_err-read_rows-clause-answer : goal.returns-in_err-read_rows-clause-answer
returns-in_err-read_rows-clause-answer g c all to_come =
    let keeping = c.read_rows.new.taker in
    let scope = scope_of keeping.follower in
    rw c.read_rows.ensures.keeps at (verdicts.refused_of scope ROWS_MAX all (HasKept scope keeping)
    (λ rows has. verdicts.reached c.followers_stand_for_reached_rows.ensures rows has.followed)
    c.in_err-read_rows.field-0.0
    (c.in_err-read_rows.ensures.ended all to_come)
    c.from_residual.result c.from_residual.ensures.1)

pub returns-in-None-clause-answer : goal.returns-in-None-clause-answer
returns-in-None-clause-answer g c all to_come =
    let scope = scope_of c.read_rows.new.taker.follower in
    subst (λ s. IsAnswer s ROWS_MAX all (Ok c.outcome_of.result)) c.read_rows.ensures.keeps
    (verdicts.whole_of scope (c.sales_follow_their_approvals.ensures scope)
    (rw c.in-None.is at (c.in_ok-read_rows.ensures.ended all to_come)) c.outcome_of.result
    (λ rows has. c.outcome_of.ensures rows has.followed.stands))

pub returns-in-None-clause-rows : goal.returns-in-None-clause-rows
returns-in-None-clause-rows g c all to_come =
    let ended = rw c.in-None.is at (c.in_ok-read_rows.ensures.ended all to_come) in
    explanations.if_yes c.outcome_of.result _ (rw ended.has.kept ended.told)

pub returns-in_ok-stop-in-Some-clause-answer : goal.returns-in_ok-stop-in-Some-clause-answer
returns-in_ok-stop-in-Some-clause-answer g c all to_come =
    rw c.read_rows.ensures.keeps at (rw c.in_ok-stop-in-Some.was at
    (rw c.in-Some.is at (c.in_ok-read_rows.ensures.ended all to_come)))

pub returns-in-None-clause-reached : goal.returns-in-None-clause-reached
returns-in-None-clause-reached g c =
    let (rows, has) = c.in_ok-read_rows.ensures.taken (ap Ok c.in-None.is) in
    explanations.if_yes c.outcome_of.result _ (rw has.kept (rw c.read_rows.ensures.keeps at
    (verdicts.reached c.followers_stand_for_reached_rows.ensures rows has.followed)))
