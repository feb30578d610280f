-- An ACK to POLL while nothing is held leaves the state and the sums.
use Rattle.mdb_cashless.proofs.Words.{◌≡◌, ◌∙◌, Some, ap, rules, sym, ReaderCommand}
use Rattle.mdb_cashless.proofs.ReaderMoves.{poll_rests, where_not}
use Rattle.mdb_cashless.proofs.reader.steps.rests.Goals as goal

pub returns-in-Some-Poll : goal.returns-in-Some-Poll
returns-in-Some-Poll c =
    let poll : c.in-Some-Poll.field-0 ≡ ReaderCommand.Poll = search rules in
    where_not c.args.state.holds (λ free facts choice after gains.
    rw (c.in-Ack.is, sym c.own.ensures ∙ c.in-Some-Poll.is ∙ ap Some poll)
    (poll_rests facts c.args.state after gains choice free))
