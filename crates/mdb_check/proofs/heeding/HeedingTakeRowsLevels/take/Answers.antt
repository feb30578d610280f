-- A row is a batch of one.
use Rattle.mdb_check.proofs.Words.{HasTaken, Meets, scope_of}
use Rattle.mdb_verdict.proofs.Taking.{one_taken}
use Rattle.mdb_check.proofs.heeding.HeedingTakeRowsLevels.take.Goals as goal

pub returns-clause-taken : goal.returns-clause-taken
returns-clause-taken c before earlier has =
    let taker = c.take_all.new.self in
    let scope = scope_of taker.follower in
    one_taken (HasTaken scope before taker) (Meets scope before taker) earlier c.args.row
    c.take_all.result (c.take_all.ensures.taken before earlier has)
