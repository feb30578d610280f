-- An ACK where it isn't known which transaction the reader took last: it was this, or another.
use Rattle.mdb_cashless.proofs.Words.{Option, ◌⊎◌, None, Some, Transaction, transaction_of, AckStep, facts_in, again}
use Rattle.mdb_cashless.proofs.Knowing.{acks_some}
use Rattle.mdb_cashless.proofs.Listed.{adds_first, adds_one, adds_two, none_small, small_one}
use Rattle.mdb_cashless.proofs.reader.guesses.add_acks.Goals as goal

pub returns-clause-steps : goal.returns-clause-steps
returns-clause-steps c =
    let base = facts_in c.args.known.now.facts in
    let Taking = λ (t : Option Transaction). AckStep (record base { taken = t }) c.args.command
    c.args.choice c.args.before in
    let same = Some (again (transaction_of c.args.command)) in
    let first = rw c.taking-another.ensures at c.ack.ensures.step in
    let second = rw (c.taking-same.ensures, c.again.ensures, c.transaction_of.ensures) at
    c.ack-2.ensures.step in
    adds_first _ _ (λ after gains. Taking None after gains ⊎ Taking same after gains) _
    c.requires.room
    (adds_two _ _ _ (Taking None) (Taking same)
    (adds_one _ _ _ _ first c.add_step.ensures.items)
    (adds_one _ _ _ _ second c.add_step-2.ensures.items))
    (λ after gains. acks_some c.args.known.now _ after gains _ _ c.requires.unknown)

pub returns-clause-small : goal.returns-clause-small
returns-clause-small c = small_one _ _ _
    (small_one _ _ _ (none_small _ c.requires.room) c.ack.ensures.small c.add_step.ensures.items)
    c.ack-2.ensures.small c.add_step-2.ensures.items
