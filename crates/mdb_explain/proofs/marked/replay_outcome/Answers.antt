-- The answer of a replay goes by how the reading of its entries ended.
use Rattle.mdb_explain.proofs.Words.{Err, Ok, ap, is_fault, ◌∙◌}
use Rattle.mdb_run_search.specs.Replays.{scope_of}
use Rattle.mdb_explain.proofs.MarkAnswers as answers
use Rattle.mdb_explain.proofs.marked.replay_outcome.Goals as goal

pub returns-in_err-read_rows-clause-answer : goal.returns-in_err-read_rows-clause-answer
returns-in_err-read_rows-clause-answer g c all to_come =
    let scope = scope_of c.read_rows.new.taker.replay in
    rw (is_fault c.from_residual.result c.from_residual.ensures.1)
    (rw (c.read_rows.ensures.keeps ∙ c.new-taker.ensures.scope) at
    (answers.refused scope all c.read_rows.new.taker _
    (c.in_err-read_rows.ensures.ended all to_come)))

pub returns-in-None-clause-answer : goal.returns-in-None-clause-answer
returns-in-None-clause-answer g c all to_come =
    let scope = scope_of c.read_rows.new.taker.replay in
    rw (c.read_rows.ensures.keeps ∙ c.new-taker.ensures.scope) at
    (answers.whole scope all c.read_rows.new.taker
    (rw c.in-None.is at (c.in_ok-read_rows.ensures.ended all to_come)) c.finish.result
    (λ taken has. c.finish.ensures.finishes scope taken has))

pub returns-in_err-stop-in-Some-clause-answer : goal.returns-in_err-stop-in-Some-clause-answer
returns-in_err-stop-in-Some-clause-answer g c all to_come =
    rw (is_fault c.from_residual-in_err-stop-in-Some.result
    c.from_residual-in_err-stop-in-Some.ensures.1)
    (rw (c.read_rows.ensures.keeps ∙ c.new-taker.ensures.scope) at
    (answers.stopped (scope_of c.read_rows.new.taker.replay) all _
    (rw c.in_err-stop-in-Some.was at
    (rw c.in-Some.is at (c.in_ok-read_rows.ensures.ended all to_come)))))

pub returns-clause-answer : goal.returns-clause-answer
returns-clause-answer g c all to_come =
    rw (c.read_rows.ensures.keeps ∙ c.new-taker.ensures.scope) at
    (answers.stops (scope_of c.read_rows.new.taker.replay) all (Ok c.in_ok-stop-in-Some.field-0)
    (rw c.in_ok-stop-in-Some.was at
    (rw c.in-Some.is at (c.in_ok-read_rows.ensures.ended all to_come))))

pub returns-in_err-stop-in-Some-clause-heard : goal.returns-in_err-stop-in-Some-clause-heard
returns-in_err-stop-in-Some-clause-heard g c =
    let stopped = rw c.in-Some.is at c.in_ok-read_rows.ensures.stopped in
    rw (is_fault c.from_residual-in_err-stop-in-Some.result
    c.from_residual-in_err-stop-in-Some.ensures.1)
    (λ read. absurd (stopped.2.no_read (c.in_err-stop-in-Some.was ∙ ap Err read)))

pub returns-in-None-clause-heard : goal.returns-in-None-clause-heard
returns-in-None-clause-heard g c =
    answers.cause_unread c.finish.result _ c.finish.ensures.not_read
