-- An ACK to POLL changes nothing of a reader that has nothing to tell again.
use Rattle.mdb_cashless.proofs.Words.{◌≡◌, ◌∙◌, Some, ap, rules, sym, ReaderCommand}
use Rattle.mdb_cashless.proofs.ApprovalsLeft.{poll_stays}
use Rattle.mdb_cashless.proofs.ReaderMoves.{where_not}
use Rattle.mdb_cashless.proofs.approvals.matters.rests.Goals as goal

pub returns-in-Some-Poll : goal.returns-in-Some-Poll
returns-in-Some-Poll c =
    let poll : c.in-Some-Poll.field-0 ≡ ReaderCommand.Poll = search rules in
    where_not c.args.state.again (λ free facts choice after gains.
    rw (c.in-Ack.is, sym c.own.ensures ∙ c.in-Some-Poll.is ∙ ap Some poll)
    (poll_stays facts c.args.state after gains free))
