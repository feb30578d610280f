-- An ask where it isn't known what was asked last: it was this.
use Rattle.mdb_cashless.proofs.Words.{transaction_of, AskStep, Facts, facts_in}
use Rattle.mdb_cashless.proofs.Knowing.{asks_some}
use Rattle.mdb_cashless.proofs.Listed.{adds_first, adds_one, none_small, small_one}
use Rattle.mdb_cashless.proofs.reader.guesses.add_asks.Goals as goal

pub returns-clause-steps : goal.returns-clause-steps
returns-clause-steps c =
    let facts : Facts = record (facts_in c.args.known.now.facts) {
      asked = transaction_of c.args.command;
    } in
    let step = rw (c.asking-facts.ensures, c.transaction_of.ensures) at c.ask.ensures.step in
    adds_first _ _ (AskStep facts c.args.command c.args.before) _ c.requires.room
    (adds_one _ _ _ _ step c.add_step.ensures.items)
    (λ after gains. asks_some c.args.known.now _ after gains _ c.requires.unknown)

pub returns-clause-small : goal.returns-clause-small
returns-clause-small c = small_one _ _ _ (none_small _ c.requires.room) c.ask.ensures.small
    c.add_step.ensures.items
