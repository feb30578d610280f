-- The verdict is that of the rows which were read, and the fault of a reading is handed on.
use Rattle.mdb_check.proofs.Words.{IsAnswer, IsRow, IsStopped, Meets, Ok, scope_of, subst, ◌∙◌}
use Rattle.mdb_verdict.proofs.Verdicts as verdicts
use Rattle.mdb_check.proofs.Verdicts.{judged_no, refused_answer, whole_judged}
use Rattle.mdb_check.proofs.checking.verdict_on.Goals as goal

pub returns-in-None-clause-answer : goal.returns-in-None-clause-answer
returns-in-None-clause-answer g c all to_come =
    subst (λ s. IsAnswer s c.args.rows_max all (Ok c.outcome_of.result))
    (c.read_rows.ensures.keeps ∙ c.scoped-heeding.ensures.scope) (verdicts.whole_of
    (scope_of c.read_rows.new.taker.follower)
    (c.sales_follow_their_approvals.ensures (scope_of c.read_rows.new.taker.follower))
    (rw c.in-None.is at (c.in_ok-read_rows.ensures.ended all to_come)) c.outcome_of.result
    (λ rows has. c.outcome_of.ensures rows has.is.follows.stands))

pub returns-in-None-clause-judged : goal.returns-in-None-clause-judged
returns-in-None-clause-judged g c all to_come =
    whole_judged c.args.scope.now (rw c.in-None.is at (c.in_ok-read_rows.ensures.ended all to_come))
    c.outcome_of.result c.outcome_of.ensures

pub returns-in-Some-clause-judged : goal.returns-in-Some-clause-judged
returns-in-Some-clause-judged g c all to_come =
    judged_no c.args.scope.now c.args.readers c.args.rows_max all c.read_rows.new.taker
    c.in-Some.met c.spared.result c.spared.ensures
    (subst (λ s. IsStopped IsRow (λ rows row. Meets s c.args.readers
    c.read_rows.new.taker rows row c.in-Some.met) c.args.rows_max all)
    (c.read_rows.ensures.keeps ∙ c.scoped-heeding.ensures.scope)
    (rw c.in-Some.is at (c.in_ok-read_rows.ensures.ended all to_come)))

pub returns-in-Some-clause-answer : goal.returns-in-Some-clause-answer
returns-in-Some-clause-answer g c all to_come =
    (returns-in-Some-clause-judged g c all to_come).no

pub returns-in_err-read_rows-clause-answer : goal.returns-in_err-read_rows-clause-answer
returns-in_err-read_rows-clause-answer g c all to_come =
    let scope = scope_of c.read_rows.new.taker.follower in
    rw (c.read_rows.ensures.keeps ∙ c.scoped-heeding.ensures.scope) at
    (refused_answer scope c.args.readers c.args.rows_max all c.read_rows.new.taker
    (λ rows has. verdicts.reached c.followers_stand_for_reached_rows.ensures rows has.is.follows)
    _ (c.in_err-read_rows.ensures.ended all to_come) c.from_residual.result
    c.from_residual.ensures.1)
