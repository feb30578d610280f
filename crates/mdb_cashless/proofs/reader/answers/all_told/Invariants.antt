-- From here, the rest makes of the reader what all new messages make of it from the start.
use Rattle.mdb_cashless.proofs.Words.{◌≡◌, drop, all_told}
use Rattle.mdb_cashless.proofs.reader.answers.all_told.Given as goal

abbrev pub invariant-loop-message : goal.invariant-loop-message
invariant-loop-message l =
    all_told l.last (drop l.message-index l.news) l.device ≡ all_told l.last l.news l.fn.before
