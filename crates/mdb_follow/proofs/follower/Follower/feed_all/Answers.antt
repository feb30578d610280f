-- Rows one by one: so many were taken, and the next is taken or refused.
use Rattle.mdb_follow.proofs.Words.{take, drop, split_at, take-append-add, add-one, take_all, take_more, append_assoc, ap, sym, subst, ◌≡◌, ◌+◌, ◌++◌, ◌∙◌, length, arith}
use Rattle.mdb_follow.specs.Follower.{HasAccepted}
use Rattle.mdb_follow.proofs.Following.{taken-by}
use Rattle.mdb_follow.proofs.follower.Follower.feed_all.Goals as goal

pub take-requires-clause-room : goal.take-requires-clause-room
take-requires-clause-room c = let rows = c.loop-event.invariant.rows in omega arith

pub returns-in-None-clause-offence : goal.returns-in-None-clause-offence
returns-in-None-clause-offence c earlier on =
    let events = c.args.events.now in
    let i = c.loop-event.event-index in
    let fed = c.loop-event.invariant in
    let refused = simp c.noted.ensures at c.in-None.ensures.refused in
    record {
      front = take i events;
      row = c.event-item.result;
      rest = drop (i + 1) events;
      parts = rw (add-one, c.event-item.is)
          (split_at events i c.event-item.result c.loop-event-test.true);
      is = rw fed.scope at (refused.offence (earlier ++ take i events) (fed.stands earlier on));
    }

pub returns-in-None-clause-accepted : goal.returns-in-None-clause-accepted
returns-in-None-clause-accepted c earlier on =
    let events = c.args.events.now in
    let i = c.loop-event.event-index in
    let fed = c.loop-event.invariant in
    let refused = simp c.noted.ensures at c.in-None.ensures.refused in
    let rows : c.take.new.self.rows ≡ length earlier + i =
    refused.uncounted ∙ fed.rows ∙ ap (λ n. n + i) on.rows in
    subst (λ n. HasAccepted c.take.new.self (take n (earlier ++ events))) (sym rows)
    (rw (take-append-add earlier events i)
    (refused.accepted (earlier ++ take i events) (fed.stands earlier on)))

pub loop-event-preserved : goal.loop-event-preserved
loop-event-preserved c =
    let events = c.args.events.now in
    let i = c.loop-event.event-index in
    let fed = c.loop-event.invariant in
    let taken = c.in-Some-take.ensures.taken in
    record {
      rows = omega (arith, taken.counted, fed.rows);
      going = c.in-Some-take.ensures.going;
      scope = c.take.ensures.scope ∙ fed.scope;
      still = λ none. absurd (omega (arith, none));
      stands = λ earlier on.
          rw (take_more events i c.event-item.result c.loop-event-test.true, ← append_assoc)
          (rw c.event-item.is at (taken.stands (earlier ++ take i events) (fed.stands earlier on)));
    }

pub returns-clause-taken : goal.returns-clause-taken
returns-clause-taken c =
    let all = rw (take_all c.loop-event.event-index c.args.events.now c.loop-event-test.false) at
    c.loop-event.invariant in
    taken-by c.args.self.now c.loop-event.self c.args.events.now all.scope
    (omega (arith, all.rows, c.loop-event-test.false, c.loop-event.auto.event-index-end)) all.stands
