-- A reply where it isn't known which transaction the reader took last, or where it is.
use Rattle.mdb_cashless.proofs.Words.{◌∙◌, ◌⊎◌, Option, None, Some, ap, subst, if_known, Transaction, own_transaction, taken, Facts, facts_in, again, IsReplyKeeping}
use Rattle.mdb_cashless.proofs.Knowing.{replies_known, replies_some}
use Rattle.mdb_cashless.proofs.Listed.{Adds, adds_first, adds_two, none_small}
use Rattle.mdb_cashless.proofs.reader.guesses.add_replies.Goals as goal

pub returns-then-known-clause-steps : goal.returns-then-known-clause-steps
returns-then-known-clause-steps c = adds_first _ _ _ _ c.requires c.add_keeping.ensures.items
    (λ after gains. replies_known c.args.known.now _ after gains _ _ _ c.if-known.true)

pub returns-then-known-clause-small : goal.returns-then-known-clause-small
returns-then-known-clause-small c = c.add_keeping.ensures.small (none_small _ c.requires)

pub returns-clause-steps : goal.returns-clause-steps
returns-clause-steps c =
    let known = c.args.known.now in
    let base = facts_in known.facts in
    let Keeps = λ (f : Facts). IsReplyKeeping f (if_known known.knows_kept f.past.last_kept)
    c.args.command c.args.reply.now c.args.choice c.args.before in
    let taking = λ (t : Option Transaction). record base { taken = t } in
    let its = own_transaction (taken c.args.command c.args.reply.now) in
    let old = c.args.steps.now.items in
    let mid = c.add_keeping-2.new.steps.items in
    let new = c.add_keeping-3.new.steps.items in
    adds_first old new (λ after gains. Keeps (taking None) after gains
    ⊎ Keeps (taking (Some (again its))) after gains) _ c.requires
    (adds_two old mid new _ _
    (subst (λ (f : Facts). Adds old mid (Keeps f)) c.taking-other.ensures
    c.add_keeping-2.ensures.items)
    (subst (λ (f : Facts). Adds mid new (Keeps f)) (c.taking-same.ensures
    ∙ ap (λ t. taking (Some t)) (c.again.ensures ∙ ap again c.taken_by.ensures))
    c.add_keeping-3.ensures.items))
    (λ after gains. replies_some known _ after gains _ _ _ c.if-known.false)

pub returns-clause-small : goal.returns-clause-small
returns-clause-small c = c.add_keeping-3.ensures.small
    (c.add_keeping-2.ensures.small (none_small _ c.requires))
